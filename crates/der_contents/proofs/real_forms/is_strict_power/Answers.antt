use Rattle.der_contents.specs.Grammar.{IsPoint, OneThen}
use Rattle.der_contents.specs.RealForms.{IsStrictExponent, IsUpperE}
use Rattle.der_contents.proofs.GrammarLaws.{never_told, no_front, one_front, told_behind}
use Rattle.der_contents.proofs.real_forms.is_strict_power.Goals as goal

pub returns-in-Some : goal.returns-in-Some
returns-in-Some c =
    told_behind (OneThen IsPoint) (one_front IsPoint) (OneThen IsUpperE IsStrictExponent) c.args.octets.now
    c.in-Some.rest.now c.is_strict_scale.result c.in-Some.ensures c.is_strict_scale.ensures

pub returns-in-None : goal.returns-in-None
returns-in-None c =
    never_told _
    (no_front (OneThen IsPoint) (one_front IsPoint) (OneThen IsUpperE IsStrictExponent) c.args.octets.now
    c.in-None.ensures)
