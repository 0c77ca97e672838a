use Rattle.der_contents.specs.Grammar.{NumberThen}
use Rattle.der_contents.specs.TimeForms.{MonthToHour}
use Rattle.der_contents.proofs.GrammarLaws.{number_front, strips_both, strips_none}
use Rattle.der_contents.proofs.time_forms.strip_century_to_hour.Goals as goal

pub returns-in-Some : goal.returns-in-Some
returns-in-Some c =
    strips_both (NumberThen 0 99) (λ G. NumberThen 0 99 (MonthToHour G)) (number_front 0 99) c.args.octets.now
    c.in-Some.year.now c.strip_year_to_hour.result c.in-Some.ensures c.strip_year_to_hour.ensures

pub returns-in-None : goal.returns-in-None
returns-in-None c =
    strips_none (NumberThen 0 99) (λ G. NumberThen 0 99 (MonthToHour G)) (number_front 0 99) c.args.octets.now
    c.in-None.ensures
