-- Times of certificates (RFC 5280 4.1.2.5) are those that a cursor reads.
use Rattle.std.proofs.Common.{◌≡◌, ◌≢◌, ℕ, ◌%◌, ◌<◌, ◌≤◌, nat_le, nat_lt, ⊎_elim, true, false, Option, Some, None, List, ◌++◌, codes, refl, sym, ap, subst, ◌∙◌, arith, inl, inr}
use Rattle.std.proofs.lemmas.Bool.{cases_lt}
use Rattle.std.proofs.lemmas.Bool.Decides.{nat_tests}
use Rattle.der_base.specs.declared.time.ASN1DateTime.{ASN1DateTime}
use Rattle.der_base.specs.Leaf.{IsDerLeaf}
use Rattle.der_base.specs.Time.{IsMoment, IsUtcTime, IsGeneralizedTime, IsZone, rfc5280_year, time_text, two_digits, four_digits, month_to_minute, fraction_text}
use Rattle.der_base.specs.Tree.{time}
use Rattle.der_base.proofs.Times.DerTimes.{utc_written, generalized_written}
use Rattle.der_cursor.specs.Formats.{Required, UtcTime, GeneralizedTime, Time}
use Rattle.der_values.specs.Kinds.{with_whole_year}
use Rattle.der_writer.specs.Fields as put
use Rattle.der_writer.specs.Times.{IsRfc5280Time}
use Rattle.der_writer.specs.Formats.Encodings.{Encodes, short_year}
use Rattle.der_writer.proofs.FormatsLaws.Values.{utc_encodes, generalized_encodes}

no_fraction : (t : ASN1DateTime) → IsRfc5280Time t → t.nanosecond ≢ Some 0
no_fraction t h e = let k : ◌≡◌ {A = Option ℕ} None (Some 0) = sym h.whole ∙ e in cc

moment : (t : ASN1DateTime) → IsMoment t → IsMoment (short_year t)
moment t m = record { month = m.month; day = m.day; hour = m.hour; minute = m.minute }

utc_text : (t : ASN1DateTime) → IsRfc5280Time t → IsUtcTime (time_text 23 (short_year t)) (short_year t)
utc_text t h = (
  omega arith,
  moment t h.moment,
  h.whole,
  two_digits t.second,
  codes "Z",
  inr (h.second, refl),
  subst (IsZone (codes "Z")) (sym h.zone) refl,
  utc_written (short_year t) (omega arith) (moment t h.moment) h.second h.whole h.zone,
)

utc_leaf : (t : ASN1DateTime) → IsRfc5280Time t → IsDerLeaf 23 (time 23 (short_year t))
utc_leaf t h = ((refl, refl, inl (refl, utc_text t h)), (h.zone, no_fraction t h))

generalized_text : (t : ASN1DateTime) → IsRfc5280Time t → IsGeneralizedTime (time_text 24 t) t
generalized_text t h = (
  omega (arith, h.year.1),
  h.moment,
  two_digits t.second,
  fraction_text None,
  codes "Z",
  inr (h.second, refl),
  inl (refl, h.whole),
  inr (subst (IsZone (codes "Z")) (sym h.zone) refl),
  generalized_written t (omega (arith, h.year.1)) h.moment h.second h.zone ∙ ap (λ n. four_digits t.year ++ (month_to_minute t ++ (two_digits t.second ++ (fraction_text n ++ codes "Z")))) h.whole,
)

generalized_leaf : (t : ASN1DateTime) → IsRfc5280Time t → IsDerLeaf 24 (time 24 t)
generalized_leaf t h = ((refl, refl, inr (refl, generalized_text t h)), (h.zone, no_fraction t h))

-- two digits stand for a year from 1950 to 2049
year_again : (n : ℕ) → 1950 ≤ n → n < 2050 → rfc5280_year (n % 100) ≡ n
year_again n first last =
    let e : nat_le 100 (n % 100) ≡ false = grind (arith, nat_tests) in
    ⊎_elim
    (λ h. let f : nat_le 50 (n % 100) ≡ true = grind (arith, nat_tests) in rw (e, f) (omega (arith, h, first)))
    (λ h. let f : nat_le 50 (n % 100) ≡ false = grind (arith, nat_tests) in rw (e, f) (omega (arith, h, last)))
    (cases_lt n 2000)

whole_again : (t : ASN1DateTime) → IsRfc5280Time t → t.year < 2050 → with_whole_year 23 (short_year t) ≡ t
whole_again t h last = ap (λ n. record t { year = n }) (year_again t.year h.year.0 last)

in_utc : (t : ASN1DateTime) {e : List ℕ} → Encodes (Required UtcTime) t e → Encodes Time t e
unfolding Time
in_utc t h = record { read = λ few rest. inl (h.read few rest) }

in_generalized : (t : ASN1DateTime) {e : List ℕ} → Encodes (Required GeneralizedTime) t e → Encodes Time t e
unfolding Time
in_generalized t h = record { read = λ few rest. inr (h.read few rest) }

pub rfc5280_encodes : (t : ASN1DateTime) → IsRfc5280Time t → Encodes Time t (put.Rfc5280Time t)
rfc5280_encodes t h =
    ⊎_elim
    (λ last.
    let e : nat_lt t.year 2050 ≡ true = grind (arith, nat_tests) in
    let P : ASN1DateTime → Type 0 = λ x. Encodes Time x (put.UtcTime (short_year t)) in
    let own : Encodes Time t (put.UtcTime (short_year t)) = subst P (whole_again t h last) (in_utc (with_whole_year 23 (short_year t)) (utc_encodes (short_year t) (utc_leaf t h))) in
    rw e own)
    (λ first.
    let e : nat_lt t.year 2050 ≡ false = grind (arith, nat_tests) in
    rw e (in_generalized t (generalized_encodes t (generalized_leaf t h))))
    (cases_lt t.year 2050)
