use Rattle.der_contents.specs.Grammar.{Ends, IsPlus, IsZero, OneThen}
use Rattle.der_contents.proofs.FormLaws.{negative_no_plus}
use Rattle.der_contents.proofs.GrammarLaws.{left_told, no_front, one_front, one_is, right_told, told_behind}
use Rattle.der_contents.proofs.real_forms.is_strict_exponent.Goals as goal

pub returns-in-Some : goal.returns-in-Some
returns-in-Some c =
    left_told _ _ _
    (λ h. one_is IsPlus _ c.args.octets.now c.in-Some.ensures (negative_no_plus c.args.octets.now h))
    (told_behind (OneThen IsPlus) (one_front IsPlus) (OneThen IsZero Ends) c.args.octets.now c.in-Some.zero.now
    c.is_zero.result c.in-Some.ensures c.is_zero.ensures)

pub returns-in-None : goal.returns-in-None
returns-in-None c =
    right_told _ _ _
    (no_front (OneThen IsPlus) (one_front IsPlus) (OneThen IsZero Ends) c.args.octets.now c.in-None.ensures)
    c.is_negative_or_whole.ensures
