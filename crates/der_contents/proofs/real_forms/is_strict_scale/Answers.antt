use Rattle.der_contents.specs.Grammar.{OneThen}
use Rattle.der_contents.specs.RealForms.{IsStrictExponent, IsUpperE}
use Rattle.der_contents.proofs.GrammarLaws.{never_told, no_front, one_front, told_behind}
use Rattle.der_contents.proofs.real_forms.is_strict_scale.Goals as goal

pub returns-in-Some : goal.returns-in-Some
returns-in-Some c =
    told_behind (OneThen IsUpperE) (one_front IsUpperE) IsStrictExponent c.args.octets.now c.in-Some.exponent.now
    c.is_strict_exponent.result c.in-Some.ensures c.is_strict_exponent.ensures

pub returns-in-None : goal.returns-in-None
returns-in-None c =
    never_told _
    (no_front (OneThen IsUpperE) (one_front IsUpperE) IsStrictExponent c.args.octets.now c.in-None.ensures)
