use Rattle.std.proofs.Common.{◌≡◌, ℕ, ◌++◌, append_assoc}
use Rattle.der_base.specs.declared.time.ASN1DateTime.{ASN1DateTime}
use Rattle.der_base.specs.Time.{at_least_digits, fraction_text, zone_text, text_from_year}
use Rattle.der_values.proofs.OctetsLaws.Room.{puts_both}
use Rattle.der_values.proofs.octets.time.write_time.Goals as goal

-- the text from its end
from_end : (k : ℕ) (t : ASN1DateTime) → text_from_year k t
    ≡ at_least_digits k t.year ++ (at_least_digits 2 t.month ++
    (at_least_digits 2 t.day ++ (at_least_digits 2 t.hour ++ (at_least_digits 2 t.minute ++ (at_least_digits 2 t.second ++ (fraction_text t.nanosecond ++ zone_text t.tz))))))
from_end k t = simp append_assoc

pub returns : goal.returns
returns c =
    let second = puts_both (puts_both c.write_zone-begin.ensures c.write_fraction-begin.ensures) (rw c.from.ensures at c.write_digits-begin.ensures) in
    let minute = puts_both second (rw c.from-2.ensures at c.write_digits-begin-2.ensures) in
    let hour = puts_both minute (rw c.from-3.ensures at c.write_digits-begin-3.ensures) in
    let day = puts_both hour (rw c.from-4.ensures at c.write_digits-begin-4.ensures) in
    let month = puts_both day (rw c.from-5.ensures at c.write_digits-begin-5.ensures) in
    rw (from_end c.args.year_digits c.args.time) (puts_both month c.write_digits.ensures)
