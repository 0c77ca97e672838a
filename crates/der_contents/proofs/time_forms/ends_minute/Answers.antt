use Rattle.der_contents.specs.Grammar.{NumberThen}
use Rattle.der_contents.specs.TimeForms.{EndsTime}
use Rattle.der_contents.proofs.FormLaws.{ends_time_no_digit}
use Rattle.der_contents.proofs.GrammarLaws.{left_told, no_front, number_front, number_is, right_told, told_behind}
use Rattle.der_contents.proofs.time_forms.ends_minute.Goals as goal

pub returns-in-Some : goal.returns-in-Some
returns-in-Some c =
    left_told _ _ _
    (λ h. number_is 0 60 _ c.args.octets.now c.in-Some.ensures (ends_time_no_digit c.args.octets.now h))
    (told_behind (NumberThen 0 60) (number_front 0 60) EndsTime c.args.octets.now c.in-Some.rest.now
    c.ends_time.result c.in-Some.ensures c.ends_time.ensures)

pub returns-in-None : goal.returns-in-None
returns-in-None c =
    right_told _ _ _ (no_front (NumberThen 0 60) (number_front 0 60) EndsTime c.args.octets.now c.in-None.ensures)
    c.ends_time-in-None.ensures
