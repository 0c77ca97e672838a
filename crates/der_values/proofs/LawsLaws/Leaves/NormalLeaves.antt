-- What is written for content octets that were read is read as the same content.
use Rattle.std.proofs.Common.{◌≡◌, ℕ, zero, suc, ◌+◌, ◌-◌, ◌*◌, ◌^◌, ◌<◌, ◌≤◌, ◌==◌, Bool, true, false, Some, pos}
use Rattle.std.proofs.Common.{neg_ℤ, int_lt, List, [], ◌∷◌, ◌++◌, length, length-append, pow-add, replicate, refl, sym}
use Rattle.std.proofs.Common.{ap, subst, ◌∙◌, arith, inl, inr}
use Rattle.std.proofs.Math.Nat.{mul_assoc}
use Rattle.std.proofs.lemmas.Bool.Decides.{Decides-eqb, nat_tests}
use Rattle.std.proofs.lemmas.List.{length-replicate}
use Rattle.der_base.specs.declared.time.ASN1DateTime.{ASN1DateTime}
use Rattle.der_base.specs.declared.time.ASN1TimeZone.{ASN1TimeZone}
use Rattle.der_base.specs.declared.time.ASN1TimeZone.TheVariants.{Undefined, Z, Offset}
use Rattle.der_base.specs.Encoding.{content_octets}
use Rattle.der_base.specs.Leaf.{IsLeafContent}
use Rattle.der_base.specs.Time.{two_digits, decimal_from, IsDigit, IsZone, IsFraction, IsUtcTime, IsGeneralizedTime}
use Rattle.der_base.specs.Time.{IsTimeText, at_least_digits, without_last_zeros, or_zero, fraction_text, zone_text}
use Rattle.der_base.specs.Time.{time_text}
use Rattle.der_base.specs.Tree.{Content, end_of_content, boolean, integer, bit_string, string, null, enumerated, object_identifier, relative_oid, time, sequence, set, absent, present, tagged, unknown}
use Rattle.der_base.proofs.Times.DerTimes.{few_seconds}
use Rattle.der_base.proofs.AllByRecursion.{Each, each_from_all, all_from_each}
use Rattle.der_base.proofs.Octets.Shortest.{integer_shortest}
use Rattle.der_base.proofs.Times.TimeTexts.{two_written, four_written, nine_written, zeros_go, left_digits, decimal_from_append, decimal_from_zeros}

-- the text of a zone

-- an offset of 0 hours and 0 minutes is written with a plus
negative_offset : (hours minutes : ℕ) → hours < 24 → minutes < 60 → IsZone (zone_text (Offset (neg_ℤ (pos hours)) (neg_ℤ (pos minutes)))) (Offset (neg_ℤ (pos hours)) (neg_ℤ (pos minutes)))
negative_offset zero zero h m = (zero, zero, h, m, inl (refl, refl, rw (two_written zero (omega arith)) refl))
negative_offset zero (suc b) h m = (zero, suc b, h, m, inr (refl, refl, rw (two_written zero (omega arith), two_written (suc b) (omega arith)) refl))
negative_offset (suc a) zero h m = (suc a, zero, h, m, inr (refl, refl, rw (two_written (suc a) (omega arith), two_written zero (omega arith)) refl))
negative_offset (suc a) (suc b) h m = (suc a, suc b, h, m, inr (refl, refl, rw (two_written (suc a) (omega arith), two_written (suc b) (omega arith)) refl))

not_negative : (n : ℕ) → int_lt (pos n) (pos 0) ≡ false
not_negative n = grind (arith, nat_tests)

positive_offset : (hours minutes : ℕ) → hours < 24 → minutes < 60 → IsZone (zone_text (Offset (pos hours) (pos minutes))) (Offset (pos hours) (pos minutes))
positive_offset a b h m = (a, b, h, m, inl (refl, refl, rw (not_negative a, not_negative b, two_written a (omega arith), two_written b (omega arith)) refl))

zone_written : (s : List ℕ) (x : ASN1TimeZone) → IsZone s x → IsZone (zone_text x) x
zone_written s Undefined h = absurd h
zone_written s Z h = refl
zone_written s (Offset h m) (hours, minutes, few, less, inl (eh, em, e)) = rw (eh, em) (positive_offset hours minutes few less)
zone_written s (Offset h m) (hours, minutes, few, less, inr (eh, em, e)) = rw (eh, em) (negative_offset hours minutes few less)

-- the digits of a fraction

-- what goes from the end is zeros
zeros_behind : (ds : List ℕ) → (j : ℕ) × (ds ≡ without_last_zeros ds ++ replicate j 0x30)
zeros_behind [] = (zero, refl)
zeros_behind (d ∷ ds) = let q = zeros_behind ds in at q.0 q.1 (d == 0x30) refl (without_last_zeros ds) refl
  where
    at : (j : ℕ) → ds ≡ without_last_zeros ds ++ replicate j 0x30 → (b : Bool) → (d == 0x30) ≡ b → (left : List ℕ) → without_last_zeros ds ≡ left
        → (j : ℕ) × (d ∷ ds ≡ without_last_zeros (d ∷ ds) ++ replicate j 0x30)
    at j e false p left l = (j, rw p (ap (λ w. d ∷ w) e))
    at j e true p [] l = (suc j, rw (p, l) (let k : d ≡ 0x30 = (Decides-eqb d 0x30).0 p in let g : ds ≡ replicate j 0x30 = e ∙ ap (λ w. w ++ replicate j 0x30) l in rw k (ap (λ w. 0x30 ∷ w) g)))
    at j e true p (c ∷ left) l = let some : (length (c ∷ left) == 0) ≡ false = grind (arith, nat_tests) in (j, rw (p, l, some) (ap (λ w. d ∷ w) (e ∙ ap (λ w. w ++ replicate j 0x30) l)))

-- the digits that are left stand for the same fraction
left_are : (ds left : List ℕ) (j n : ℕ) → Each IsDigit left → ds ≡ left ++ replicate j 0x30 → length ds ≤ 9 → n ≡ decimal_from 0 ds * 10 ^ (9 - length ds) → IsFraction (0x2E ∷ or_zero left) n
left_are ds [] j n are e few v =
    let zeros : decimal_from 0 ds ≡ 0 * 10 ^ j = ap (decimal_from 0) e ∙ decimal_from_zeros 0 j in
    let none : n ≡ 0 = v ∙ ap (λ k. k * 10 ^ (9 - length ds)) (zeros ∙ zero_times (10 ^ j)) ∙ zero_times (10 ^ (9 - length ds)) in
    (0x2E, 0x30 ∷ [], inl refl, refl, all_from_each IsDigit (0x30 ∷ []) ((omega arith, omega arith), tt), omega arith, omega arith, none ∙ sym (zero_times (10 ^ 8)))
  where
    zero_times : (k : ℕ) → 0 * k ≡ 0
    zero_times k = omega arith
left_are ds (c ∷ left) j n are e few v =
    let size : length ds ≡ length (c ∷ left) + j = ap length e ∙ length-append (c ∷ left) (replicate j 0x30) ∙ ap (λ k. length (c ∷ left) + k) (length-replicate {A = ℕ} j 0x30) in
    let same : decimal_from 0 ds ≡ decimal_from 0 (c ∷ left) * 10 ^ j = ap (decimal_from 0) e ∙ decimal_from_append 0 (c ∷ left) (replicate j 0x30)
    ∙ decimal_from_zeros (decimal_from 0 (c ∷ left)) j in
    let places : j + (9 - length ds) ≡ 9 - length (c ∷ left) = omega (arith, size, few) in (
      0x2E,
      c ∷ left,
      inl refl,
      refl,
      all_from_each IsDigit (c ∷ left) are,
      omega arith,
      omega (arith, size, few),
      v ∙ ap (λ k. k * 10 ^ (9 - length ds)) same ∙ mul_assoc (decimal_from 0 (c ∷ left)) (10 ^ j) (10 ^ (9 - length ds))
          ∙ ap (λ k. decimal_from 0 (c ∷ left) * k) (sym (pow-add 10 j (9 - length ds)) ∙ ap (λ k. 10 ^ k) places),
    )

-- the text of a fraction is a point and those digits, or one 0
fraction_written : (s : List ℕ) (n : ℕ) → IsFraction s n → IsFraction (fraction_text (Some n)) n
fraction_written s n (mark, ds, m, e, are, some, few, v) =
    let digits : Each IsDigit ds = each_from_all IsDigit ds are in
    let left : without_last_zeros (at_least_digits 9 n) ≡ without_last_zeros ds = ap (λ k. without_last_zeros (at_least_digits 9 k)) v ∙ ap without_last_zeros (nine_written ds digits few)
    ∙ zeros_go ds (9 - length ds) in
    let q = zeros_behind ds in
    subst (λ l. IsFraction (0x2E ∷ or_zero l) n) (sym left) (left_are ds (without_last_zeros ds) q.0 n (left_digits ds digits) q.1 few v)

-- the text of a time

-- seconds are always written
utc_written : (w : List ℕ) (t : ASN1DateTime) → IsUtcTime w t → IsUtcTime (time_text 23 t) t
utc_written w t (year, moment, none, s, z, hs, hz, e) =
    let second : t.second < 60 = few_seconds s t.second hs in (
      year,
      moment,
      none,
      two_digits t.second,
      zone_text t.tz,
      inr (second, refl),
      zone_written z t.tz hz,
      rw (
        none,
        two_written t.year year,
        two_written t.month (omega (arith, moment.month)),
        two_written t.day (omega (arith, moment.day)),
        two_written t.hour (omega (arith, moment.hour)),
        two_written t.minute (omega (arith, moment.minute)),
        two_written t.second (omega (arith, second)),
      ) refl,
    )

generalized_written : (w : List ℕ) (t : ASN1DateTime) → IsGeneralizedTime w t → IsGeneralizedTime (time_text 24 t) t
generalized_written w t (year, moment, s, f, z, hs, hf, hz, e) =
    let second : t.second < 60 = few_seconds s t.second hs in (
      year,
      moment,
      two_digits t.second,
      fraction_text t.nanosecond,
      zone_text t.tz,
      inr (second, refl),
      elim hf [
        | inl h ↦ inl (ap fraction_text h.1, h.1)
        | inr (some, n, is, h) ↦ inr ((λ k. omega (arith, ap length k)), n, subst (λ x. IsFraction (fraction_text x) n) (sym h) (fraction_written f n is), h)
      ],
      elim hz [
        | inl h ↦ inl (ap zone_text h.1, h.1)
        | inr h ↦ inr (zone_written z t.tz h)
      ],
      rw (
        four_written t.year year,
        two_written t.month (omega (arith, moment.month)),
        two_written t.day (omega (arith, moment.day)),
        two_written t.hour (omega (arith, moment.hour)),
        two_written t.minute (omega (arith, moment.minute)),
        two_written t.second (omega (arith, second)),
      ) refl,
    )

time_written : (k : ℕ) (w : List ℕ) (t : ASN1DateTime) → IsTimeText k w t → IsTimeText k (time_text k t) t
time_written k w t (inl (e, h)) = rw e (inl (refl, utc_written w t h))
time_written k w t (inr (e, h)) = rw e (inr (refl, generalized_written w t h))

-- a content of any type
pub leaf_written : (p : Bool) (t : ℕ) (w : List ℕ) (x : Content) → IsLeafContent p t w x → IsLeafContent p t (content_octets x) x
leaf_written p t w end_of_content h = h
leaf_written p t w (boolean true) h = (h.0, h.1, 255, refl, refl)
leaf_written p t w (boolean false) h = (h.0, h.1, 0, refl, refl)
leaf_written p t w (integer v) h = (h.0, refl)
leaf_written p t w (bit_string u v) h = (h.0, h.1, refl)
leaf_written p t w (string k v) h = (h.0, h.1, refl)
leaf_written p t w null h = h
leaf_written p t w (object_identifier r v) h = (h.0, h.1, h.2, refl)
leaf_written p t w (enumerated n) h = (h.0, h.1, h.2, integer_shortest n)
leaf_written p t w (relative_oid r v) h = (h.0, h.1, h.2, refl)
leaf_written p t w (time k x) h = (h.0, h.1, time_written k w x h.2)
leaf_written p t w (sequence l) h = absurd h
leaf_written p t w (set l) h = absurd h
leaf_written p t w absent h = absurd h
leaf_written p t w (present o) h = absurd h
leaf_written p t w (tagged c k o) h = absurd h
leaf_written p t w (unknown c q k v) h = absurd h
