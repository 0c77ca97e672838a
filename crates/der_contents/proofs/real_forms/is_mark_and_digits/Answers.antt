use Rattle.der_base.specs.Time.{IsDigit}
use Rattle.der_contents.specs.Grammar.{AnyThen, Ends, IsMark, OneThen}
use Rattle.der_contents.proofs.FormLaws.{end_begins}
use Rattle.der_contents.proofs.GrammarLaws.{any_passed, never_told, no_front, one_front, told_at, told_behind}
use Rattle.der_contents.proofs.real_forms.is_mark_and_digits.Goals as goal

pub returns-in-Some : goal.returns-in-Some
returns-in-Some c =
    told_behind (OneThen IsMark) (one_front IsMark) (AnyThen IsDigit Ends) c.args.octets.now c.in-Some.digits.now
    c.is_end.result c.in-Some.ensures
    (told_at _ _ _
    (any_passed IsDigit Ends (end_begins IsDigit) c.in-Some.digits.now c.skip_digits.result.now
    c.skip_digits.ensures)
    c.is_end.ensures)

pub returns-in-None : goal.returns-in-None
returns-in-None c =
    never_told _
    (no_front (OneThen IsMark) (one_front IsMark) (AnyThen IsDigit Ends) c.args.octets.now c.in-None.ensures)
