use Rattle.der_base.specs.Time.{IsDigit}
use Rattle.der_contents.specs.Grammar.{SomeThen}
use Rattle.der_contents.specs.RealForms.{IsMarkedPower, IsPower}
use Rattle.der_contents.proofs.FormLaws.{marked_no_digit, marked_power_no_digit}
use Rattle.der_contents.proofs.GrammarLaws.{left_told, one_is, right_told, skips_one, some_passed, told_at}
use Rattle.der_contents.proofs.real_forms.is_scaled.Goals as goal

pub returns-in-Some : goal.returns-in-Some
returns-in-Some c =
    left_told _ _ _
    (λ h. skips_one IsDigit c.args.number.now c.in-Some.rest.now c.in-Some.ensures
    (marked_no_digit (SomeThen IsDigit IsPower) c.args.number.now h))
    (told_at _ _ _
    (some_passed IsDigit IsMarkedPower marked_power_no_digit c.args.number.now c.in-Some.rest.now
    c.in-Some.ensures)
    c.is_marked_power.ensures)

pub returns-in-None : goal.returns-in-None
returns-in-None c =
    right_told _ _ _ (λ o. one_is IsDigit _ c.args.number.now o c.in-None.ensures) c.is_scaled_fraction.ensures
