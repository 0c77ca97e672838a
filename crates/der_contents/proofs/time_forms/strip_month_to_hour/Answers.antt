use Rattle.der_contents.specs.Grammar.{NumberThen}
use Rattle.der_contents.proofs.GrammarLaws.{number_front, strips_both, strips_none}
use Rattle.der_contents.proofs.time_forms.strip_month_to_hour.Goals as goal

pub returns-in-Some : goal.returns-in-Some
returns-in-Some c =
    strips_both (NumberThen 1 12) (λ G. NumberThen 1 31 (NumberThen 0 23 G)) (number_front 1 12) c.args.octets.now
    c.in-Some.day.now c.strip_day_and_hour.result c.in-Some.ensures c.strip_day_and_hour.ensures

pub returns-in-None : goal.returns-in-None
returns-in-None c =
    strips_none (NumberThen 1 12) (λ G. NumberThen 1 31 (NumberThen 0 23 G)) (number_front 1 12) c.args.octets.now
    c.in-None.ensures
