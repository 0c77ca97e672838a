use Rattle.der_base.specs.Time.{IsDigit}
use Rattle.der_contents.specs.Grammar.{AnyThen, IsMark, OneThen}
use Rattle.der_contents.specs.RealForms.{IsPower}
use Rattle.der_contents.proofs.FormLaws.{power_no_digit, power_no_mark}
use Rattle.der_contents.proofs.GrammarLaws.{any_passed, left_told, no_front, one_front, one_is, right_told, told_at}
use Rattle.der_contents.proofs.GrammarLaws.{told_behind}
use Rattle.der_contents.proofs.real_forms.is_marked_power.Goals as goal

pub returns-in-Some : goal.returns-in-Some
returns-in-Some c =
    left_told _ _ _ (λ h. one_is IsMark _ c.args.octets.now c.in-Some.ensures (power_no_mark c.args.octets.now h))
    (told_behind (OneThen IsMark) (one_front IsMark) (AnyThen IsDigit IsPower) c.args.octets.now c.in-Some.digits.now
    c.is_power.result c.in-Some.ensures
    (told_at _ _ _
    (any_passed IsDigit IsPower power_no_digit c.in-Some.digits.now c.skip_digits.result.now
    c.skip_digits.ensures)
    c.is_power.ensures))

pub returns-in-None : goal.returns-in-None
returns-in-None c =
    right_told _ _ _
    (no_front (OneThen IsMark) (one_front IsMark) (AnyThen IsDigit IsPower) c.args.octets.now c.in-None.ensures)
    c.is_power-in-None.ensures
