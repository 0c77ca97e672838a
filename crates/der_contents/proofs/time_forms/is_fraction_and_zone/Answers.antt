use Rattle.der_base.specs.Time.{IsDigit}
use Rattle.der_contents.specs.Grammar.{AnyThen}
use Rattle.der_contents.specs.TimeForms.{IsLastZone}
use Rattle.der_contents.proofs.FormLaws.{last_zone_no_digit}
use Rattle.der_contents.proofs.GrammarLaws.{never_told, one_is, some_passed, told_at}
use Rattle.der_contents.proofs.time_forms.is_fraction_and_zone.Goals as goal

pub returns-in-Some : goal.returns-in-Some
returns-in-Some c =
    told_at _ _ _
    (some_passed IsDigit IsLastZone last_zone_no_digit c.args.octets.now c.in-Some.zone.now c.in-Some.ensures)
    c.is_last_zone.ensures

pub returns-in-None : goal.returns-in-None
returns-in-None c =
    never_told _ (λ o. one_is IsDigit (AnyThen IsDigit IsLastZone) c.args.octets.now o c.in-None.ensures)
