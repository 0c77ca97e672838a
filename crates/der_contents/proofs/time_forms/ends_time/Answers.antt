use Rattle.der_base.specs.Time.{IsDigit}
use Rattle.der_contents.specs.Grammar.{IsMark, OneThen, SomeThen}
use Rattle.der_contents.specs.TimeForms.{IsLastZone}
use Rattle.der_contents.proofs.FormLaws.{last_zone_no_mark}
use Rattle.der_contents.proofs.GrammarLaws.{left_told, no_front, one_front, one_is, right_told, told_behind}
use Rattle.der_contents.proofs.time_forms.ends_time.Goals as goal

pub returns-in-Some : goal.returns-in-Some
returns-in-Some c =
    left_told _ _ _
    (λ h. one_is IsMark _ c.args.octets.now c.in-Some.ensures (last_zone_no_mark c.args.octets.now h))
    (told_behind (OneThen IsMark) (one_front IsMark) (SomeThen IsDigit IsLastZone) c.args.octets.now
    c.in-Some.fraction.now c.is_fraction_and_zone.result c.in-Some.ensures c.is_fraction_and_zone.ensures)

pub returns-in-None : goal.returns-in-None
returns-in-None c =
    right_told _ _ _
    (no_front (OneThen IsMark) (one_front IsMark) (SomeThen IsDigit IsLastZone) c.args.octets.now c.in-None.ensures)
    c.is_last_zone.ensures
