use Rattle.der_base.specs.Time.{IsDigit}
use Rattle.der_contents.specs.Grammar.{AnyThen, Ends, IsMark, OneThen}
use Rattle.der_contents.specs.RealForms.{IsWhole}
use Rattle.der_contents.proofs.FormLaws.{marked_no_digit}
use Rattle.der_contents.proofs.GrammarLaws.{left_told, one_is, right_told, skips_one, some_passed, told_at}
use Rattle.der_contents.proofs.real_forms.is_marked.Goals as goal

pub returns-in-Some : goal.returns-in-Some
returns-in-Some c =
    left_told _ _ _
    (λ h. skips_one IsDigit c.args.number.now c.in-Some.rest.now c.in-Some.ensures
    (marked_no_digit IsWhole c.args.number.now h))
    (told_at _ _ _
    (some_passed IsDigit (OneThen IsMark (AnyThen IsDigit Ends)) (marked_no_digit (AnyThen IsDigit Ends))
    c.args.number.now c.in-Some.rest.now c.in-Some.ensures)
    c.is_mark_and_digits.ensures)

pub returns-in-None : goal.returns-in-None
returns-in-None c = right_told _ _ _ (λ o. one_is IsDigit _ c.args.number.now o c.in-None.ensures) c.is_fraction.ensures
