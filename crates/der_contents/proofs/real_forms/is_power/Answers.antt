use Rattle.der_contents.specs.Grammar.{IsSign, MaybeThen, OneThen}
use Rattle.der_contents.specs.RealForms.{IsExponentMark, IsWhole}
use Rattle.der_contents.proofs.FormLaws.{whole_no_sign}
use Rattle.der_contents.proofs.GrammarLaws.{maybe_passed, never_told, no_front, one_front, told_at, told_behind}
use Rattle.der_contents.proofs.real_forms.is_power.Goals as goal

pub returns-in-Some : goal.returns-in-Some
returns-in-Some c =
    told_behind (OneThen IsExponentMark) (one_front IsExponentMark) (MaybeThen IsSign IsWhole) c.args.octets.now
    c.in-Some.exponent.now c.is_whole.result c.in-Some.ensures
    (told_at _ _ _
    (maybe_passed IsSign IsWhole whole_no_sign c.in-Some.exponent.now c.skip_sign.result.now c.skip_sign.ensures)
    c.is_whole.ensures)

pub returns-in-None : goal.returns-in-None
returns-in-None c =
    never_told _
    (no_front (OneThen IsExponentMark) (one_front IsExponentMark) (MaybeThen IsSign IsWhole) c.args.octets.now
    c.in-None.ensures)
