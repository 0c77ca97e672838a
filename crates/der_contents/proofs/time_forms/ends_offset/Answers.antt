use Rattle.der_base.specs.Time.{IsDigit}
use Rattle.der_contents.specs.Grammar.{Ends, NumberThen}
use Rattle.der_contents.proofs.FormLaws.{end_begins}
use Rattle.der_contents.proofs.GrammarLaws.{left_told, no_front, number_front, number_is, right_told, told_behind}
use Rattle.der_contents.proofs.time_forms.ends_offset.Goals as goal

pub returns-in-Some : goal.returns-in-Some
returns-in-Some c =
    left_told _ _ _
    (λ h. number_is 0 59 _ c.args.octets.now c.in-Some.ensures (end_begins IsDigit c.args.octets.now h))
    (told_behind (NumberThen 0 59) (number_front 0 59) Ends c.args.octets.now c.in-Some.rest.now c.is_end.result
    c.in-Some.ensures c.is_end.ensures)

pub returns-in-None : goal.returns-in-None
returns-in-None c =
    right_told _ _ _ (no_front (NumberThen 0 59) (number_front 0 59) Ends c.args.octets.now c.in-None.ensures)
    c.is_end-in-None.ensures
