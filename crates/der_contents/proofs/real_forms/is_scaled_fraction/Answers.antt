use Rattle.der_base.specs.Time.{IsDigit}
use Rattle.der_contents.specs.Grammar.{IsMark, OneThen, SomeThen}
use Rattle.der_contents.specs.RealForms.{IsPower}
use Rattle.der_contents.proofs.GrammarLaws.{never_told, no_front, one_front, told_behind}
use Rattle.der_contents.proofs.real_forms.is_scaled_fraction.Goals as goal

pub returns-in-Some : goal.returns-in-Some
returns-in-Some c =
    told_behind (OneThen IsMark) (one_front IsMark) (SomeThen IsDigit IsPower) c.args.octets.now
    c.in-Some.digits.now c.is_digits_and_power.result c.in-Some.ensures c.is_digits_and_power.ensures

pub returns-in-None : goal.returns-in-None
returns-in-None c =
    never_told _
    (no_front (OneThen IsMark) (one_front IsMark) (SomeThen IsDigit IsPower) c.args.octets.now c.in-None.ensures)
