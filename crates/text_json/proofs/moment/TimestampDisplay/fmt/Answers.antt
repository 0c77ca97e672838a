use Rattle.std.proofs.Common.{◌≡◌, ◌++◌, ℕ, Bool, List, append_assoc, codes, refl}
use Rattle.std.proofs.Output.{has_written_append, has_written_of_eq}
use Rattle.der_base.specs.declared.time.ASN1DateTime.{ASN1DateTime}
use Rattle.der_base.specs.Time.{at_least_digits}
use Rattle.text_json.specs.Timestamps.{fraction_text, full_year, timestamp_text, zone_text}
use Rattle.text_json.proofs.moment.TimestampDisplay.fmt.Goals as goal

pieces : (y a mo b d c h e mi k s n z : List ℕ) → (y ++ (a ++ (mo ++ (b ++ d)))) ++ ((c ++ (h ++ (e ++ (mi ++ (k ++ s))))) ++ (n ++ z))
    ≡ y ++ a ++ mo ++ b ++ d ++ c ++ h ++ e ++ mi ++ k ++ s ++ n ++ z
pieces y a mo b d c h e mi k s n z = simp append_assoc refl

moment_shown : (u : Bool) (t : ASN1DateTime) (y : ℕ) (month day hour minute second : List ℕ) → y ≡ full_year u t → month ≡ at_least_digits 2 t.month → day ≡ at_least_digits 2 t.day
    → hour ≡ at_least_digits 2 t.hour → minute ≡ at_least_digits 2 t.minute → second ≡ at_least_digits 2 t.second
    → (at_least_digits 4 y ++ (codes "-" ++ (month ++ (codes "-" ++ day))))
    ++ ((codes "T" ++ (hour ++ (codes ":" ++ (minute ++ (codes ":" ++ second))))) ++ (fraction_text t.nanosecond ++ zone_text t.tz)) ≡ timestamp_text u t
moment_shown u t y month day hour minute second ye mo d h mi s =
    rw (ye, mo, d, h, mi, s)
    (pieces (at_least_digits 4 (full_year u t)) (codes "-") (at_least_digits 2 t.month) (codes "-") (at_least_digits 2 t.day) (codes "T") (at_least_digits 2 t.hour) (codes ":")
    (at_least_digits 2 t.minute) (codes ":") (at_least_digits 2 t.second) (fraction_text t.nanosecond) (zone_text t.tz))

pub returns-clause-writes : goal.returns-clause-writes
returns-clause-writes g c =
    let self = c.args.self.now in
    λ plain ok.
    let date = c.in_ok-write.ensures.writes plain refl in
    let clock = c.in_ok-write-2.ensures.writes date.plain refl in
    let fraction = c.in_ok-write_fraction.ensures clock.plain refl in
    let zone = c.write_zone.ensures fraction.plain ok in
    has_written_of_eq _ _ _ _ _
    (moment_shown self.is_utc_time self.time _ _ _ _ _ _ c.full_year.ensures c.two_digits-month.ensures c.two_digits-day.ensures c.two_digits-hour.ensures
    c.two_digits-minute.ensures c.two_digits-second.ensures)
    (has_written_append _ _ _ _ _ _ date (has_written_append _ _ _ _ _ _ clock (has_written_append _ _ _ _ _ _ fraction zone)))
