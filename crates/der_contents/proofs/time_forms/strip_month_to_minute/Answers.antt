use Rattle.der_contents.specs.Grammar.{NumberThen}
use Rattle.der_contents.specs.TimeForms.{MonthToHour}
use Rattle.der_contents.proofs.FormLaws.{month_to_hour_front}
use Rattle.der_contents.proofs.GrammarLaws.{strips_both, strips_none}
use Rattle.der_contents.proofs.time_forms.strip_month_to_minute.Goals as goal

pub returns-in-Some : goal.returns-in-Some
returns-in-Some c =
    strips_both MonthToHour (NumberThen 0 59) month_to_hour_front c.args.octets.now c.in-Some.minute.now
    c.strip_number.result c.in-Some.ensures c.strip_number.ensures

pub returns-in-None : goal.returns-in-None
returns-in-None c = strips_none MonthToHour (NumberThen 0 59) month_to_hour_front c.args.octets.now c.in-None.ensures
