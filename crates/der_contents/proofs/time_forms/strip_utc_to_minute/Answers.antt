use Rattle.der_contents.specs.Grammar.{NumberThen}
use Rattle.der_contents.specs.TimeForms.{MonthToHour}
use Rattle.der_contents.proofs.GrammarLaws.{number_front, strips_both, strips_none}
use Rattle.der_contents.proofs.time_forms.strip_utc_to_minute.Goals as goal

pub returns-in-Some : goal.returns-in-Some
returns-in-Some c =
    strips_both (NumberThen 0 99) (λ G. MonthToHour (NumberThen 0 59 G)) (number_front 0 99) c.args.octets.now
    c.in-Some.month.now c.strip_month_to_minute.result c.in-Some.ensures c.strip_month_to_minute.ensures

pub returns-in-None : goal.returns-in-None
returns-in-None c =
    strips_none (NumberThen 0 99) (λ G. MonthToHour (NumberThen 0 59 G)) (number_front 0 99) c.args.octets.now
    c.in-None.ensures
