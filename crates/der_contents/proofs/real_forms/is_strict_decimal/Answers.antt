use Rattle.der_contents.specs.Grammar.{IsMinus, OneThen}
use Rattle.der_contents.specs.RealForms.{IsStrictMantissa}
use Rattle.der_contents.proofs.FormLaws.{mantissa_no_minus}
use Rattle.der_contents.proofs.GrammarLaws.{left_told, no_front, one_front, one_is, right_told, told_behind}
use Rattle.der_contents.proofs.real_forms.is_strict_decimal.Goals as goal

pub returns-in-Some : goal.returns-in-Some
returns-in-Some c =
    left_told _ _ _ (λ h. one_is IsMinus _ c.args.text.now c.in-Some.ensures (mantissa_no_minus c.args.text.now h))
    (told_behind (OneThen IsMinus) (one_front IsMinus) IsStrictMantissa c.args.text.now c.in-Some.mantissa.now
    c.is_strict_mantissa.result c.in-Some.ensures c.is_strict_mantissa.ensures)

pub returns-in-None : goal.returns-in-None
returns-in-None c =
    right_told _ _ _
    (no_front (OneThen IsMinus) (one_front IsMinus) IsStrictMantissa c.args.text.now c.in-None.ensures)
    c.is_strict_mantissa-in-None.ensures
