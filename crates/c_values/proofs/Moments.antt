-- Times with possible fields are times that DER has.
use Rattle.std.proofs.Common.{◌≡◌, ◌≢◌, ℕ, zero, suc, ◌+◌, ◌-◌, ◌*◌, ◌/◌, ◌^◌, ◌<◌, ◌≤◌, ◌==◌, Bool, true, false, Some, None, List, [], ◌∷◌, ◌++◌, length, replicate, refl, sym, ap, subst, ◌∙◌, ◌⊎◌, arith, inl, inr, codes, append-nil, length-append}
use Rattle.std.specs.Prelude.{IsTrue, nat_le, ◌&&◌}
use Rattle.std.proofs.lemmas.Bool.Decides.{Decides-eqb, nat_tests}
use Rattle.std.proofs.lemmas.Bool.{false≢true}
use Rattle.std.proofs.lemmas.List.{length-replicate}
use Rattle.std.proofs.Math.Nat.{pow-suc}
use Rattle.der_base.specs.Leaf.{IsDerLeaf}
use Rattle.der_base.specs.Time.{IsDigit, IsFraction, IsGeneralizedTime, IsMoment, IsUtcTime, at_least_digits, decimal_from, digit, fraction_text, or_zero, time_text, two_digits, without_last_zeros}
use Rattle.der_base.specs.Text.{is_within}
use Rattle.der_base.specs.Tree.{time}
use Rattle.der_base.proofs.AllByRecursion.{Each, all_from_each}
use Rattle.der_base.proofs.Times.DerTimes.{generalized_written, or_some, utc_written}
use Rattle.der_base.proofs.Times.OneReading.{digit_is}
use Rattle.der_base.proofs.Times.TimeTexts.{at_least_padded, decimal_from_append, decimal_from_zeros, left_digits, none_left_zero, padded}
use Rattle.c_values.specs.declared.time.DmTime.{DmTime}
use Rattle.c_values.specs.Laws.{TimesAreDer}
use Rattle.c_values.specs.Tested.{has_time, has_year, time_of}

padded_digits : (k n : ℕ) (after : List ℕ) → Each IsDigit after → Each IsDigit (padded k n after)
padded_digits zero n after h = h
padded_digits (suc k) n after h = padded_digits k (n / 10) (digit n ∷ after) (digit_is n, h)

padded_length : (k n : ℕ) (after : List ℕ) → length (padded k n after) ≡ k + length after
padded_length zero n after = omega arith
padded_length (suc k) n after = let rest = padded_length k (n / 10) (digit n ∷ after) in omega (arith, rest)

padded_value : (k n : ℕ) (after : List ℕ) → n < 10 ^ k → decimal_from 0 (padded k n after) ≡ decimal_from n after
padded_value zero n after h = let none : 0 ≡ n = omega (arith, h) in ap (λ m. decimal_from m after) none
padded_value (suc k) n after h =
    let few : n < 10 ^ k * 10 = omega (arith, h, pow-suc 10 k) in
    let all : n / 10 * 10 + (digit n - 0x30) ≡ n = omega arith in
    padded_value k (n / 10) (digit n ∷ after) (omega (arith, few)) ∙ ap (λ m. decimal_from m after) all

is_none : (w : List ℕ) → (length w == 0) ≡ true → w ≡ []
is_none [] h = refl
is_none (b ∷ w) h = absurd (let k : length (b ∷ w) ≡ 0 = (Decides-eqb (length (b ∷ w)) 0).0 h in omega arith)

some_length : (w : List ℕ) → w ≢ [] → 1 ≤ length w
some_length [] n = absurd (n refl)
some_length (b ∷ w) n = omega arith

-- the zeros that are left out
zeros_left : (ds : List ℕ) → (j : ℕ) × (ds ≡ without_last_zeros ds ++ replicate j 0x30)
zeros_left [] = (0, refl)
zeros_left (d ∷ ds) = let rest = zeros_left ds in at rest.0 rest.1 (d == 0x30) refl (length (without_last_zeros ds) == 0) refl
  where
    at : (j : ℕ) → ds ≡ without_last_zeros ds ++ replicate j 0x30 → (b : Bool) → (d == 0x30) ≡ b → (c : Bool) → (length (without_last_zeros ds) == 0) ≡ c
        → (i : ℕ) × (d ∷ ds ≡ without_last_zeros (d ∷ ds) ++ replicate i 0x30)
    at j e true p true q =
        let zero_is : d ≡ 0x30 = (Decides-eqb d 0x30).0 p in
        let rest_is : ds ≡ replicate j 0x30 = e ∙ ap (λ l. l ++ replicate j 0x30) (is_none (without_last_zeros ds) q) in
        (suc j, rw (p, q) (ap (λ x. x ∷ ds) zero_is ∙ ap (λ l. 0x30 ∷ l) rest_is))
    at j e false p c q = (j, rw p (ap (λ l. d ∷ l) e))
    at j e true p false q = (j, rw (p, q) (ap (λ l. d ∷ l) e))

-- the text of a fraction that isn't 0
fraction_is : (n : ℕ) → n ≢ 0 → n < 10 ^ 9 → IsFraction (fraction_text (Some n)) n
fraction_is n some h =
    let ds = padded 9 n [] in
    let w = without_last_zeros ds in
    let nine : at_least_digits 9 n ≡ ds = sym (append-nil (at_least_digits 9 n)) ∙ at_least_padded 8 n [] h (omega (arith, h)) in
    let value : decimal_from 0 ds ≡ n = padded_value 9 n [] h in
    let zeros = zeros_left ds in
    let nonzero : w ≢ [] = λ e. some (sym value ∙ none_left_zero ds e) in
    let size : 9 ≡ length w + zeros.0 = omega (arith, padded_length 9 n [], ap length zeros.1, length-append w (replicate zeros.0 0x30), length-replicate {A = ℕ} zeros.0 0x30) in
    let left : zeros.0 ≡ 9 - length w = omega (arith, size) in
    let spelled : n ≡ decimal_from 0 w * 10 ^ zeros.0 =
    sym value ∙ ap (decimal_from 0) zeros.1 ∙ decimal_from_append 0 w (replicate zeros.0 0x30) ∙ decimal_from_zeros (decimal_from 0 w) zeros.0 in (
      0x2E,
      w,
      inl refl,
      ap (λ l. 0x2E ∷ l) (ap (λ l. or_zero (without_last_zeros l)) nine ∙ or_some w nonzero),
      all_from_each IsDigit w (left_digits ds (padded_digits 9 n [] tt)),
      some_length w nonzero,
      omega (arith, size),
      spelled ∙ ap (λ j. decimal_from 0 w * 10 ^ j) left,
    )

both_true : (a b : Bool) → (a && b) ≡ true → (a ≡ true) × (b ≡ true)
both_true true b h = (refl, h)
both_true false b h = absurd (false≢true h)

within : (low high n : ℕ) → is_within low high n ≡ true → (low ≤ n) × (n ≤ high)
within low high n h = (grind (arith, nat_tests), grind (arith, nat_tests))

below : (n m : ℕ) → nat_le n m ≡ true → n ≤ m
below n m h = grind (arith, nat_tests)

-- what the tests say
record Passes (k : ℕ) (t : DmTime) : Type 0 where
  year : has_year k t ≡ true
  moment : IsMoment (time_of k t)
  second : t.second < 60

passes : (k : ℕ) (t : DmTime) → IsTrue (has_time k t) → Passes k t
passes k t h =
    let zone = both_true _ _ h in
    let second = both_true _ _ zone.0 in
    let minute = both_true _ _ second.0 in
    let hour = both_true _ _ minute.0 in
    let day = both_true _ _ hour.0 in
    let month = both_true _ _ day.0 in
    let seconds = below t.second 59 second.1 in
    let minutes = below t.minute 59 minute.1 in
    let hours = below t.hour 23 hour.1 in
    record {
      year = month.0;
      moment = record { month = within 1 12 t.month month.1; day = within 1 31 t.day day.1; hour = omega (arith, hours); minute = omega (arith, minutes) };
      second = omega (arith, seconds);
    }

utc_is : (t : DmTime) → Passes 23 t → IsUtcTime (time_text 23 (time_of 23 t)) (time_of 23 t)
utc_is t h =
    let x = time_of 23 t in
    let year : x.year < 100 = omega arith in
    let whole : (t.nanosecond == 0) ≡ true = (both_true _ _ h.year).1 in
    let none : x.nanosecond ≡ None = rw whole refl in
    (year, h.moment, none, two_digits x.second, codes "Z", inr (h.second, refl), refl, utc_written x year h.moment h.second none refl)

generalized_is : (t : DmTime) → Passes 24 t → IsGeneralizedTime (time_text 24 (time_of 24 t)) (time_of 24 t)
generalized_is t h =
    let x = time_of 24 t in
    let nanosecond = both_true _ _ h.year in
    let years = below t.year 9999 (both_true (24 == 24) (nat_le t.year 9999) nanosecond.0).1 in
    let year : x.year < 10000 = omega (arith, years) in
    let few = below t.nanosecond 999999999 nanosecond.1 in (
      year,
      h.moment,
      two_digits x.second,
      fraction_text x.nanosecond,
      codes "Z",
      inr (h.second, refl),
      fraction (t.nanosecond == 0) refl (omega (arith, few)),
      inr refl,
      generalized_written x year h.moment h.second refl,
    )
  where
    fraction : (b : Bool) → (t.nanosecond == 0) ≡ b → t.nanosecond < 10 ^ 9
        → ((fraction_text (time_of 24 t).nanosecond ≡ []) × ((time_of 24 t).nanosecond ≡ None))
        ⊎ ((two_digits (time_of 24 t).second ≢ []) × (n : ℕ) × IsFraction (fraction_text (time_of 24 t).nanosecond) n × ((time_of 24 t).nanosecond ≡ Some n))
    fraction true e few = let none : (time_of 24 t).nanosecond ≡ None = rw e refl in inl (ap fraction_text none, none)
    fraction false e few =
        let some : (time_of 24 t).nanosecond ≡ Some t.nanosecond = rw e refl in
        let nonzero : t.nanosecond ≢ 0 = λ z. false≢true (sym e ∙ (Decides-eqb t.nanosecond 0).1 z) in
        inr ((λ q. cc), t.nanosecond, subst (λ o. IsFraction (fraction_text o) t.nanosecond) (sym some) (fraction_is t.nanosecond nonzero few), some)

strict_is : (k : ℕ) (t : DmTime) → (time_of k t).nanosecond ≢ Some 0
strict_is k t = at (t.nanosecond == 0) refl
  where
    at : (b : Bool) → (t.nanosecond == 0) ≡ b → (time_of k t).nanosecond ≢ Some 0
    at true e = rw e (λ q. cc)
    at false e = rw e (λ q. let z : t.nanosecond ≡ 0 = cc in false≢true (sym e ∙ (Decides-eqb t.nanosecond 0).1 z))

pub times_are_der : TimesAreDer
times_are_der k t h = at (k == 23) refl
  where
    at : (b : Bool) → (k == 23) ≡ b → IsDerLeaf k (time k (time_of k t))
    at true e =
        let is : k ≡ 23 = (Decides-eqb k 23).0 e in
        rw is ((refl, refl, inl (refl, utc_is t (passes 23 t (rw is at h)))), (refl, strict_is 23 t))
    at false e =
        let tests : has_year k t ≡ true = (passes k t h).year in
        let is : k ≡ 24 = (Decides-eqb k 24).0 (both_true _ _ (both_true _ _ (rw e at tests)).0).0 in
        rw is ((refl, refl, inr (refl, generalized_is t (passes 24 t (rw is at h)))), (refl, strict_is 24 t))
