use Rattle.std.proofs.Common.{◌≡◌, ℕ, ℤ, rules, [], ◌∷◌, ◌++◌, sym, ap, pos, nat_abs, if◌then◌else◌}
use Rattle.std.specs.Prelude.{◌||◌, codes, int_lt}
use Rattle.der_base.specs.declared.time.ASN1TimeZone.{ASN1TimeZone}
use Rattle.der_base.specs.declared.time.ASN1TimeZone.TheVariants.{Offset}
use Rattle.der_base.specs.Time.{at_least_digits, zone_text}
use Rattle.der_values.proofs.OctetsLaws.Room.{puts_three}
use Rattle.der_values.proofs.octets.time.write_zone.Goals as goal

offset_text : (z : ASN1TimeZone) (h m : ℤ) (s a b : ℕ) → z ≡ Offset h m → a ≡ nat_abs h → b ≡ nat_abs m → s ∷ [] ≡ (if int_lt h (pos 0) || int_lt m (pos 0) then codes "-" else codes "+")
    → zone_text z ≡ s ∷ [] ++ at_least_digits 2 a ++ at_least_digits 2 b
offset_text z h m s a b e f g k = rw (e, f, g) (ap (λ l. l ++ at_least_digits 2 (nat_abs h) ++ at_least_digits 2 (nat_abs m)) (sym k))

pub returns-in-Offset : goal.returns-in-Offset
returns-in-Offset c =
    let minutes : c.from.result ≡ nat_abs c.in-Offset.minutes = search rules in
    let hours : c.from-in-Offset.result ≡ nat_abs c.in-Offset.hours = search rules in
    let sign : c.sign.result ∷ [] ≡ (if int_lt c.in-Offset.hours (pos 0) || int_lt c.in-Offset.minutes (pos 0) then codes "-" else codes "+") = search rules in
    rw (offset_text c.args.zone c.in-Offset.hours c.in-Offset.minutes c.sign.result c.from-in-Offset.result c.from.result c.in-Offset.is hours minutes sign)
    (puts_three c.write_digits-begin.ensures c.write_digits-begin-in-Offset.ensures c.write_octet-in-Offset.ensures)
