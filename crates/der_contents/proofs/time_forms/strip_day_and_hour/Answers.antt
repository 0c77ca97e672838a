use Rattle.der_contents.specs.Grammar.{NumberThen}
use Rattle.der_contents.proofs.GrammarLaws.{number_front, strips_both, strips_none}
use Rattle.der_contents.proofs.time_forms.strip_day_and_hour.Goals as goal

pub returns-in-Some : goal.returns-in-Some
returns-in-Some c =
    strips_both (NumberThen 1 31) (NumberThen 0 23) (number_front 1 31) c.args.octets.now c.in-Some.hour.now
    c.strip_number-in-Some.result c.in-Some.ensures c.strip_number-in-Some.ensures

pub returns-in-None : goal.returns-in-None
returns-in-None c =
    strips_none (NumberThen 1 31) (NumberThen 0 23) (number_front 1 31) c.args.octets.now c.in-None.ensures
