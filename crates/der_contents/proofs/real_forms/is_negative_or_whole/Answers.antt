use Rattle.der_contents.specs.Grammar.{IsMinus, OneThen}
use Rattle.der_contents.specs.RealForms.{IsStrictWhole}
use Rattle.der_contents.proofs.FormLaws.{strict_whole_no_minus}
use Rattle.der_contents.proofs.GrammarLaws.{left_told, no_front, one_front, one_is, right_told, told_behind}
use Rattle.der_contents.proofs.real_forms.is_negative_or_whole.Goals as goal

pub returns-in-Some : goal.returns-in-Some
returns-in-Some c =
    left_told _ _ _
    (λ h. one_is IsMinus _ c.args.octets.now c.in-Some.ensures (strict_whole_no_minus c.args.octets.now h))
    (told_behind (OneThen IsMinus) (one_front IsMinus) IsStrictWhole c.args.octets.now c.in-Some.whole.now
    c.is_strict_whole.result c.in-Some.ensures c.is_strict_whole.ensures)

pub returns-in-None : goal.returns-in-None
returns-in-None c =
    right_told _ _ _
    (no_front (OneThen IsMinus) (one_front IsMinus) IsStrictWhole c.args.octets.now c.in-None.ensures)
    c.is_strict_whole-in-None.ensures
