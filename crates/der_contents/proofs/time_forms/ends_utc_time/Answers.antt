use Rattle.der_contents.specs.Grammar.{NumberThen}
use Rattle.der_contents.specs.TimeForms.{IsZone}
use Rattle.der_contents.proofs.FormLaws.{zone_no_digit}
use Rattle.der_contents.proofs.GrammarLaws.{left_told, no_front, number_front, number_is, right_told, told_behind}
use Rattle.der_contents.proofs.time_forms.ends_utc_time.Goals as goal

pub returns-in-Some : goal.returns-in-Some
returns-in-Some c =
    left_told _ _ _ (λ h. number_is 0 59 _ c.args.octets.now c.in-Some.ensures (zone_no_digit c.args.octets.now h))
    (told_behind (NumberThen 0 59) (number_front 0 59) IsZone c.args.octets.now c.in-Some.zone.now c.is_zone.result
    c.in-Some.ensures c.is_zone.ensures)

pub returns-in-None : goal.returns-in-None
returns-in-None c =
    right_told _ _ _ (no_front (NumberThen 0 59) (number_front 0 59) IsZone c.args.octets.now c.in-None.ensures)
    c.is_zone-in-None.ensures
