-- A text of a time that passes the tests of DER is what is written for the time.
use Rattle.std.proofs.Common.{◌≡◌, ◌≢◌, ℕ, ◌-◌, ◌*◌, ◌^◌, ◌≤◌, Option, Some, None, List, [], ◌∷◌, ◌++◌, length, refl}
use Rattle.std.proofs.Common.{sym, ap, subst, ◌∙◌, arith, inl, inr, append_assoc, codes, length-append, append-nil}
use Rattle.std.proofs.lemmas.Fmt.{decimal_digit}
use Rattle.der_base.specs.declared.time.ASN1DateTime.{ASN1DateTime}
use Rattle.der_base.specs.declared.time.ASN1TimeZone.{ASN1TimeZone}
use Rattle.der_base.specs.declared.time.ASN1TimeZone.TheVariants.{Undefined, Z, Offset}
use Rattle.der_base.specs.LeafRefusal.{time_tests, HasLooseFraction}
use Rattle.der_base.specs.Time.{two_digits, four_digits, decimal_from, IsDigit, AreSeconds, IsZone, month_to_minute}
use Rattle.der_base.specs.Time.{IsUtcTime, IsGeneralizedTime, IsTimeText, at_least_digits, without_last_zeros, or_zero}
use Rattle.der_base.specs.Time.{fraction_text, time_text}
use Rattle.der_base.proofs.Octets.Identifiers.{fronts_same}
use Rattle.der_base.proofs.Leaves.Decided.{sure}
use Rattle.der_base.proofs.Leaves.Refusals.{NoneHolds}
use Rattle.der_base.proofs.Times.TimesDecided.{IsLastFraction, decided_ends}
use Rattle.der_base.proofs.Times.TimeTexts.{nine_written, zeros_go, stays}
use Rattle.der_base.proofs.AllByRecursion.{Each, each_from_all}
use Rattle.der_base.proofs.Times.DerTimes.{few_seconds, utc_written, generalized_written, two_are, or_some}

-- the last of some digits is one
ends_in_digit : (u ds v : List ℕ) (b : ℕ) → Each IsDigit ds → 1 ≤ length ds → u ++ ds ≡ v ++ b ∷ [] → IsDigit b
ends_in_digit u [] v b h l e = absurd (omega arith)
ends_in_digit u (d ∷ []) v b h l e =
    let q = fronts_same u v (d ∷ []) (b ∷ []) (omega (arith, ap length e, length-append u (d ∷ []), length-append v (b ∷ []))) e in
    let k : d ≡ b = cc (q.1) in subst IsDigit k h.0
ends_in_digit u (d ∷ c ∷ ds) v b h l e = ends_in_digit (u ++ d ∷ []) (c ∷ ds) v b h.1 (omega arith) (append_assoc u (d ∷ []) (c ∷ ds) ∙ e)

-- digits at the end are no Z
no_z : (u ds v : List ℕ) → Each IsDigit ds → 1 ≤ length ds → u ++ ds ≢ v ++ codes "Z"
no_z u ds v h l e = let d : IsDigit 0x5A = ends_in_digit u ds v 0x5A h l e in omega (arith, d.1)

-- where a text ends in Z, so does its zone
pub zone_is_z : (u v z : List ℕ) (x : ASN1TimeZone) → IsZone z x → u ++ z ≡ v ++ codes "Z" → (x ≡ Z) × (z ≡ codes "Z")
zone_is_z u v z Undefined h e = absurd h
zone_is_z u v z Z h e = (refl, h)
zone_is_z u v z (Offset a b) (hours, minutes, lh, lm, inl h) e =
    absurd (no_z (u ++ (codes "+" ++ two_digits hours)) (two_digits minutes) v (two_are minutes) (omega arith)
    (append_assoc u (codes "+" ++ two_digits hours) (two_digits minutes) ∙ ap (λ l. u ++ l) (sym h.2) ∙ e))
zone_is_z u v z (Offset a b) (hours, minutes, lh, lm, inr h) e =
    absurd (no_z (u ++ (codes "-" ++ two_digits hours)) (two_digits minutes) v (two_are minutes) (omega arith)
    (append_assoc u (codes "-" ++ two_digits hours) (two_digits minutes) ∙ ap (λ l. u ++ l) (sym h.2) ∙ e))

pub none_of_zero : without_last_zeros (at_least_digits 9 0) ≡ []
none_of_zero = rw (decimal_digit 0 (omega arith)) refl

-- a fraction whose digits end in no 0 is written as it stands
fraction_stands : (ds : List ℕ) (n : ℕ) → Each IsDigit ds → 1 ≤ length ds → length ds ≤ 9 → n ≡ decimal_from 0 ds * 10 ^ (9 - length ds) → ((f : List ℕ) → ds ≢ f ++ 0x30 ∷ [])
    → (without_last_zeros (at_least_digits 9 n) ≡ ds) × (n ≢ 0)
fraction_stands ds n are some few value ends = (left, (λ z. let q : [] ≡ ds = sym none_of_zero ∙ ap (λ m. without_last_zeros (at_least_digits 9 m)) (sym z) ∙ left in omega (arith, some, ap length q)))
  where
    left : without_last_zeros (at_least_digits 9 n) ≡ ds
    left = ap (λ m. without_last_zeros (at_least_digits 9 m)) value ∙ ap without_last_zeros (nine_written ds are few) ∙ zeros_go ds (9 - length ds) ∙ stays ds ends

-- what is to be shown of a time: it is written so, in UTC and with no fraction of 0
pub record IsWrittenTime (k : ℕ) (w : List ℕ) (t : ASN1DateTime) : Type 0 where
  pub written : w ≡ time_text k t
  pub zone : t.tz ≡ Z
  pub fraction : t.nanosecond ≢ Some 0

-- the text of a UTCTime
utc_is_written : (w v : List ℕ) (t : ASN1DateTime) → IsUtcTime w t → NoneHolds (time_tests 23 w) → w ≡ v ++ codes "Z" → IsWrittenTime 23 w t
utc_is_written w v t (year, moment, none, seconds, zone, hs, hz, e) n ends =
    let z : (t.tz ≡ Z) × (zone ≡ codes "Z") = zone_is_z (two_digits t.year ++ month_to_minute t ++ seconds) v zone t.tz hz (sym e ∙ ends) in
    let s : seconds ≡ two_digits t.second = elim hs [
      | inl h ↦ absurd (n.1.1.0 (t, e ∙ ap (λ l. two_digits t.year ++ month_to_minute t ++ l ++ zone) h.0 ∙ ap (λ l. two_digits t.year ++ month_to_minute t ++ [] ++ l) z.1))
      | inr h ↦ h.1
    ] in
    record {
      written = e ∙ ap (λ l. two_digits t.year ++ month_to_minute t ++ l ++ zone) s ∙ ap (λ l. two_digits t.year ++ month_to_minute t ++ two_digits t.second ++ l) z.1
          ∙ sym (utc_written t year moment (few_seconds seconds t.second hs) none z.0);
      zone = z.0;
      fraction = λ h. let k : None ≡ Some 0 = sym none ∙ h in cc;
    }

-- a text with no zone ends in a digit
pub no_zone : (p s f v : List ℕ) (m n : ℕ) (x : Option ℕ) → AreSeconds s n → IsLastFraction s f x → p ++ (two_digits m ++ (s ++ f)) ≢ v ++ codes "Z"
no_zone p s f v m n x (inl h) (inl g) e = no_z p (two_digits m) v (two_are m) (omega arith) (ap (λ l. p ++ (two_digits m ++ l)) (sym (ap (λ l. l ++ f) h.0 ∙ g.0)) ∙ e)
no_zone p s f v m n x (inr h) (inl g) e =
    no_z (p ++ two_digits m) (two_digits n) v (two_are n) (omega arith) (append_assoc p (two_digits m) (two_digits n)
    ∙ ap (λ l. p ++ (two_digits m ++ l)) (sym (ap (λ l. l ++ f) h.1 ∙ ap (λ l. two_digits n ++ l) g.0)) ∙ e)
no_zone p s f v m n x h (inr (some, k, (mark, ds, mk, is, are, one, few, value), q)) e =
    no_z (p ++ (two_digits m ++ (s ++ mark ∷ []))) ds v (each_from_all IsDigit ds are) one
    (append_assoc p (two_digits m ++ (s ++ mark ∷ [])) ds ∙ ap (λ l. p ++ (two_digits m ++ l)) (append_assoc s (mark ∷ []) ds ∙ ap (λ l. s ++ l) (sym is)) ∙ e)

-- what stands behind the minutes
record IsWrittenTail (s f z : List ℕ) (t : ASN1DateTime) : Type 0 where
  seconds : s ≡ two_digits t.second
  fraction : f ≡ fraction_text t.nanosecond
  nonzero : t.nanosecond ≢ Some 0

-- where seconds are there and the fraction is strict
tail_is_written : (u s f z : List ℕ) (t : ASN1DateTime) → AreSeconds s t.second → IsLastFraction s f t.nanosecond → z ≡ codes "Z" → ¬ ((s ≡ []) × (f ≡ [])) → ¬ HasLooseFraction (u ++ (s ++ (f ++ z)))
    → IsWrittenTail s f z t
tail_is_written u s f z t (inl h) (inl g) ez n loose = absurd (n (h.0, g.0))
tail_is_written u s f z t (inl h) (inr g) ez n loose = absurd (g.0 h.0)
tail_is_written u s f z t (inr h) (inl g) ez n loose = record { seconds = h.1; fraction = g.0 ∙ ap fraction_text (sym g.1); nonzero = λ k. let q : None ≡ Some 0 = sym g.1 ∙ k in cc }
tail_is_written u s f z t (inr h) (inr (some, k, (mark, ds, inr mk, is, are, one, few, value), q)) ez n loose =
    absurd (loose (u ++ s, ds ++ z, inl (sym (append_assoc u s (f ++ z)) ∙ ap (λ l. (u ++ s) ++ (l ++ z)) (is ∙ ap (λ b. b ∷ ds) mk))))
tail_is_written u s f z t (inr h) (inr (some, k, (mark, ds, inl mk, is, are, one, few, value), q)) ez n loose =
    let ends : (g : List ℕ) → ds ≢ g ++ 0x30 ∷ [] = λ g eg. loose (
      u ++ s,
      g,
      inr (sym (append_assoc u s (f ++ z)) ∙ ap (λ l. (u ++ s) ++ (l ++ z)) (is ∙ ap (λ b. b ∷ ds) mk)
          ∙ ap (λ l. (u ++ s) ++ (0x2E ∷ l)) (ap (λ l. l ++ z) eg ∙ append_assoc g (0x30 ∷ []) z ∙ ap (λ l. g ++ (0x30 ∷ l)) ez)),
    ) in
    let stands = fraction_stands ds k (each_from_all IsDigit ds are) one few value ends in
    let text : fraction_text (Some k) ≡ 0x2E ∷ ds = ap (λ l. 0x2E ∷ or_zero l) stands.0 ∙ ap (λ l. 0x2E ∷ l) (or_some ds (λ h. omega (arith, ap length h))) in
    record {
      seconds = h.1;
      fraction = is ∙ ap (λ b. b ∷ ds) mk ∙ sym text ∙ ap fraction_text (sym q);
      nonzero = λ z. let e : Some k ≡ Some 0 = sym q ∙ z in stands.1 (cc);
    }

-- the text of a GeneralizedTime
generalized_is_written : (w v : List ℕ) (t : ASN1DateTime) → IsGeneralizedTime w t → NoneHolds (time_tests 24 w) → w ≡ v ++ codes "Z" → IsWrittenTime 24 w t
generalized_is_written w v t (year, moment, s, f, z, hs, hf, hz, e) n ends =
    let zone : (t.tz ≡ Z) × (z ≡ codes "Z") = elim hz [
      | inl h ↦ absurd (no_zone (four_digits t.year ++ (two_digits t.month ++ two_digits t.day ++ two_digits t.hour)) s f v t.minute t.second t.nanosecond hs hf
          (sym (append-nil (four_digits t.year ++ (month_to_minute t ++ (s ++ f)))) ∙ ap (λ l. four_digits t.year ++ month_to_minute t ++ s ++ f ++ l) (sym h.0) ∙ sym e ∙ ends))
      | inr h ↦ zone_is_z (four_digits t.year ++ month_to_minute t ++ s ++ f) v z t.tz h (sym e ∙ ends)
    ] in
    let cut : w ≡ (four_digits t.year ++ month_to_minute t) ++ (s ++ (f ++ z)) = e ∙ ap (λ l. (four_digits t.year ++ month_to_minute t) ++ l) (append_assoc s f z) in
    let tail = tail_is_written (four_digits t.year ++ month_to_minute t) s f z t hs hf zone.1
    (λ q. n.1.1.0 (
      t,
      cut ∙ ap (λ l. (four_digits t.year ++ month_to_minute t) ++ (l ++ (f ++ z))) q.0 ∙ ap (λ l. (four_digits t.year ++ month_to_minute t) ++ (l ++ z)) q.1
          ∙ ap (λ l. (four_digits t.year ++ month_to_minute t) ++ l) zone.1,
    ))
    (λ q. n.1.1.1.0 (subst HasLooseFraction (sym cut) q)) in
    record {
      written =
          cut ∙ ap (λ l. (four_digits t.year ++ month_to_minute t) ++ (l ++ (f ++ z))) tail.seconds
          ∙ ap (λ l. (four_digits t.year ++ month_to_minute t) ++ (two_digits t.second ++ (l ++ z))) tail.fraction
          ∙ ap (λ l. (four_digits t.year ++ month_to_minute t) ++ (two_digits t.second ++ (fraction_text t.nanosecond ++ l))) zone.1
          ∙ sym (generalized_written t year moment (few_seconds s t.second hs) zone.0);
      zone = zone.0;
      fraction = tail.nonzero;
    }

-- a text of a time that passes the tests of DER
pub time_is_written : (k : ℕ) (w : List ℕ) (t : ASN1DateTime) → IsTimeText k w t → NoneHolds (time_tests k w) → IsWrittenTime k w t
time_is_written k w t (inl h) n = let q = sure ((v : List ℕ) × (w ≡ v ++ codes "Z")) (decided_ends w (codes "Z")) (λ m. n.0 (λ v e. m (v, e))) in rw h.0 (utc_is_written w q.0 t h.1 (rw h.0 at n) q.1)
time_is_written k w t (inr h) n =
    let q = sure ((v : List ℕ) × (w ≡ v ++ codes "Z")) (decided_ends w (codes "Z")) (λ m. n.0 (λ v e. m (v, e))) in rw h.0 (generalized_is_written w q.0 t h.1 (rw h.0 at n) q.1)
