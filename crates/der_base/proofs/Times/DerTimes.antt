-- What is written for a time in UTC passes the tests of DER.
use Rattle.std.proofs.Common.{◌≡◌, ◌≢◌, ℕ, ◌-◌, ◌/◌, ◌*◌, ◌^◌, ◌<◌, ◌⊎◌, Some, None, List, [], ◌∷◌, ◌++◌, length}
use Rattle.std.proofs.Common.{replicate, refl, sym, ap, subst, ◌∙◌, arith, inl, inr, append_assoc, codes, length-append}
use Rattle.der_base.specs.declared.time.ASN1DateTime.{ASN1DateTime}
use Rattle.der_base.specs.declared.time.ASN1TimeZone.TheVariants.{Z}
use Rattle.der_base.specs.LeafRefusal.{time_tests, HasLooseFraction}
use Rattle.der_base.specs.Time.{two_digits, four_digits, IsDigit, AreSeconds, IsFraction, IsMoment, month_to_minute}
use Rattle.der_base.specs.Time.{IsUtcTime, IsGeneralizedTime, IsTimeText, at_least_digits, without_last_zeros, or_zero}
use Rattle.der_base.specs.Time.{fraction_text, time_text}
use Rattle.der_base.proofs.Octets.Identifiers.{fronts_same}
use Rattle.der_base.proofs.Leaves.Refusals.{NoneHolds}
use Rattle.der_base.proofs.AllByRecursion.{Each, each_append, each_at, each_from_all, each_map}
use Rattle.der_base.proofs.Times.TimeTexts.{two_written, four_written, nine_written, left_ends, left_digits, none_left_zero, zeros_go}
use Rattle.der_base.proofs.Times.OneReading.{digit_is}

-- the seconds are fewer than 60
pub few_seconds : (s : List ℕ) (n : ℕ) → AreSeconds s n → n < 60
few_seconds s n (inl h) = omega arith
few_seconds s n (inr h) = h.0

-- the text behind the year
pub utc_written : (t : ASN1DateTime) → t.year < 100 → IsMoment t → t.second < 60 → t.nanosecond ≡ None → t.tz ≡ Z
    → time_text 23 t ≡ two_digits t.year ++ (month_to_minute t ++ (two_digits t.second ++ codes "Z"))
utc_written t y m s n z =
    rw (
      n,
      z,
      two_written t.year y,
      two_written t.month (omega (arith, m.month)),
      two_written t.day (omega (arith, m.day)),
      two_written t.hour (omega (arith, m.hour)),
      two_written t.minute (omega (arith, m.minute)),
      two_written t.second (omega (arith, s)),
    ) refl

pub generalized_written : (t : ASN1DateTime) → t.year < 10000 → IsMoment t → t.second < 60 → t.tz ≡ Z
    → time_text 24 t ≡ four_digits t.year ++ (month_to_minute t ++ (two_digits t.second ++ (fraction_text t.nanosecond ++ codes "Z")))
generalized_written t y m s z =
    rw (
      z,
      four_written t.year y,
      two_written t.month (omega (arith, m.month)),
      two_written t.day (omega (arith, m.day)),
      two_written t.hour (omega (arith, m.hour)),
      two_written t.minute (omega (arith, m.minute)),
      two_written t.second (omega (arith, s)),
    ) refl

pub two_are : (n : ℕ) → Each IsDigit (two_digits n)
two_are n = (digit_is (n / 10), (digit_is n, tt))

-- the digits in front of a fraction
pub front_are : (t : ASN1DateTime) → Each IsDigit (month_to_minute t ++ two_digits t.second)
front_are t =
    each_append IsDigit (month_to_minute t) (two_digits t.second) (each_append IsDigit (two_digits t.month ++ two_digits t.day ++ two_digits t.hour) (two_digits t.minute)
    (each_append IsDigit (two_digits t.month ++ two_digits t.day) (two_digits t.hour) (each_append IsDigit (two_digits t.month) (two_digits t.day) (two_are t.month) (two_are t.day)) (two_are t.hour))
    (two_are t.minute)) (two_are t.second)

-- neither a comma nor a point
abbrev pub IsNoMark : ℕ → Type 0
IsNoMark b = (b ≢ 0x2C) × (b ≢ 0x2E)

pub digit_no_mark : (b : ℕ) → IsDigit b → IsNoMark b
digit_no_mark b h = ((λ e. omega arith), (λ e. omega arith))

pub whole_is_strict : (v : List ℕ) → Each IsDigit v → ¬ HasLooseFraction (v ++ codes "Z")
whole_is_strict v h (a, f, inl e) =
    (each_at IsNoMark a 0x2C f (v ++ codes "Z") (each_append IsNoMark v (codes "Z") (each_map IsDigit IsNoMark v digit_no_mark h) (((λ e. omega arith), (λ e. omega arith)), tt)) e).0 refl
whole_is_strict v h (a, f, inr e) =
    (each_at IsNoMark a 0x2E (f ++ codes "0Z") (v ++ codes "Z") (each_append IsNoMark v (codes "Z") (each_map IsDigit IsNoMark v digit_no_mark h)
    (((λ e. omega arith), (λ e. omega arith)), tt)) e).1 refl

-- the tests of DER on the text of a UTCTime
utc_passes : (t : ASN1DateTime) → IsUtcTime (time_text 23 t) t → t.tz ≡ Z → NoneHolds (time_tests 23 (time_text 23 t))
utc_passes t h z =
    let s : t.second < 60 = few_seconds h.3 t.second h.5 in
    let e : time_text 23 t ≡ two_digits t.year ++ (month_to_minute t ++ (two_digits t.second ++ codes "Z")) = utc_written t h.0 h.1 s h.2 z in (
      (λ n. n (two_digits t.year ++ (month_to_minute t ++ two_digits t.second)) e),
      (
        (λ n. n t (inl (refl, h))),
        (
          (λ q. let k : two_digits t.year ++ (month_to_minute t ++ (two_digits t.second ++ codes "Z")) ≡ two_digits q.0.year ++ (month_to_minute q.0 ++ codes "Z") = sym e ∙ q.1 in
              omega (arith, ap length k)),
          (
            (λ q. whole_is_strict (two_digits t.year ++ (month_to_minute t ++ two_digits t.second))
                (each_append IsDigit (two_digits t.year) (month_to_minute t ++ two_digits t.second) (two_are t.year) (front_are t)) (subst HasLooseFraction e q)),
            tt,
          ),
        ),
      ),
    )

-- behind digits, a fraction begins at one place
pub marks_same : (a v x y : List ℕ) → Each IsDigit a → Each IsNoMark x → a ++ (0x2E ∷ x) ≡ v ++ (0x2E ∷ y) → x ≡ y
marks_same [] [] x y h g e = cc
marks_same [] (b ∷ v) x y h g e = absurd ((each_at IsNoMark v 0x2E y x g (cc)).1 refl)
marks_same (d ∷ a) [] x y h g e = absurd (let k : d ≡ 0x2E = cc in omega (arith, h.0))
marks_same (d ∷ a) (b ∷ v) x y h g e = marks_same a v x y h.1 g (cc)

pub last_same : (v w : List ℕ) (b : ℕ) → v ++ b ∷ [] ≡ w ++ b ∷ [] → v ≡ w
last_same v w b e = (fronts_same v w (b ∷ []) (b ∷ []) (omega (arith, ap length e, length-append v (b ∷ []), length-append w (b ∷ []))) e).0

-- a point and digits that end in no 0 are in the strict form
strict_fraction : (v ds : List ℕ) → Each IsDigit v → Each IsDigit ds → ((f : List ℕ) → ds ≢ f ++ 0x30 ∷ []) → ¬ HasLooseFraction (v ++ (0x2E ∷ (ds ++ codes "Z")))
strict_fraction v ds h g n (a, f, inl e) = each_at (λ b. b ≢ 0x2C) a 0x2C f (v ++ (0x2E ∷ (ds ++ codes "Z")))
    (each_append (λ b. b ≢ 0x2C) v (0x2E ∷ (ds ++ codes "Z")) (each_map IsDigit (λ b. b ≢ 0x2C) v (λ b d. (digit_no_mark b d).0) h)
    ((λ e. omega arith), each_append (λ b. b ≢ 0x2C) ds (codes "Z") (each_map IsDigit (λ b. b ≢ 0x2C) ds (λ b d. (digit_no_mark b d).0) g) ((λ e. omega arith), tt))) e refl
strict_fraction v ds h g n (a, f, inr e) =
    let k : ds ++ codes "Z" ≡ f ++ codes "0Z" = marks_same v a (ds ++ codes "Z") (f ++ codes "0Z") h
    (each_append IsNoMark ds (codes "Z") (each_map IsDigit IsNoMark ds digit_no_mark g) (((λ e. omega arith), (λ e. omega arith)), tt)) e in
    n f (last_same ds (f ++ 0x30 ∷ []) 0x5A (k ∙ sym (append_assoc f (0x30 ∷ []) (0x5A ∷ []))))

pub or_some : (w : List ℕ) → w ≢ [] → or_zero w ≡ w
or_some [] n = absurd (n refl)
or_some (b ∷ w) n = refl

-- a fraction that is not 0 is written as a point and digits that end in no 0
pub fraction_written : (s : List ℕ) (n : ℕ) → IsFraction s n → n ≢ 0 → (ds : List ℕ) × (fraction_text (Some n) ≡ 0x2E ∷ ds) × Each IsDigit ds × ((f : List ℕ) → ds ≢ f ++ 0x30 ∷ [])
fraction_written s n (mark, ds, m, e, are, some, few, value) no_zero =
    let digits : Each IsDigit ds = each_from_all IsDigit ds are in
    let nine : at_least_digits 9 n ≡ ds ++ replicate (9 - length ds) 0x30 = ap (λ k. at_least_digits 9 k) value ∙ nine_written ds digits few in
    let left : without_last_zeros (at_least_digits 9 n) ≡ without_last_zeros ds = ap without_last_zeros nine ∙ zeros_go ds (9 - length ds) in
    let nonzero : without_last_zeros ds ≢ [] = λ h. no_zero (value ∙ ap (λ k. k * 10 ^ (9 - length ds)) (none_left_zero ds h) ∙ zero_times (10 ^ (9 - length ds))) in
    (without_last_zeros ds, ap (λ w. 0x2E ∷ or_zero w) left ∙ ap (λ w. 0x2E ∷ w) (or_some (without_last_zeros ds) nonzero), left_digits ds digits, left_ends ds)
  where
    zero_times : (k : ℕ) → 0 * k ≡ 0
    zero_times k = omega arith

generalized_front : (t : ASN1DateTime) → Each IsDigit (four_digits t.year ++ (month_to_minute t ++ two_digits t.second))
generalized_front t =
    each_append IsDigit (four_digits t.year) (month_to_minute t ++ two_digits t.second) (each_append IsDigit (two_digits (t.year / 100)) (two_digits t.year) (two_are (t.year / 100)) (two_are t.year))
    (front_are t)

-- the tests of DER on the text of a GeneralizedTime
generalized_passes : (t : ASN1DateTime) → IsGeneralizedTime (time_text 24 t) t → t.tz ≡ Z → t.nanosecond ≢ Some 0 → NoneHolds (time_tests 24 (time_text 24 t))
generalized_passes t h z nano =
    let e : time_text 24 t ≡ four_digits t.year ++ (month_to_minute t ++ (two_digits t.second ++ (fraction_text t.nanosecond ++ codes "Z"))) =
    generalized_written t h.0 h.1 (few_seconds h.2 t.second h.5) z in (
      (λ n. n (four_digits t.year ++ (month_to_minute t ++ (two_digits t.second ++ fraction_text t.nanosecond))) e),
      (
        (λ n. n t (inr (refl, h))),
        (
          (λ q. let k : four_digits t.year ++ (month_to_minute t ++ (two_digits t.second ++ (fraction_text t.nanosecond ++ codes "Z"))) ≡ four_digits q.0.year
              ++ (month_to_minute q.0 ++ codes "Z") = sym e ∙ q.1 in omega (arith, ap length k)),
          (
            (λ q. strict h.6 (subst HasLooseFraction e q)),
            tt,
          ),
        ),
      ),
    )
  where
    strict : ((h.3 ≡ []) × (t.nanosecond ≡ None)) ⊎ ((h.2 ≢ []) × (n : ℕ) × IsFraction h.3 n × (t.nanosecond ≡ Some n))
        → ¬ HasLooseFraction (four_digits t.year ++ (month_to_minute t ++ (two_digits t.second ++ (fraction_text t.nanosecond ++ codes "Z"))))
    strict (inl f) = rw f.1 (whole_is_strict (four_digits t.year ++ (month_to_minute t ++ two_digits t.second)) (generalized_front t))
    strict (inr f) = let w = fraction_written h.3 f.1 f.2 (λ k. nano (f.3 ∙ ap Some k)) in
        subst (λ x. ¬ HasLooseFraction (four_digits t.year ++ (month_to_minute t ++ (two_digits t.second ++ (x ++ codes "Z"))))) (sym (ap fraction_text f.3 ∙ w.1))
        (strict_fraction (four_digits t.year ++ (month_to_minute t ++ two_digits t.second)) w.0 (generalized_front t) w.2 w.3)

pub time_passes : (k : ℕ) (t : ASN1DateTime) → IsTimeText k (time_text k t) t → t.tz ≡ Z → t.nanosecond ≢ Some 0 → NoneHolds (time_tests k (time_text k t))
time_passes k t (inl h) z nano = rw h.0 (utc_passes t (rw h.0 at h.1) z)
time_passes k t (inr h) z nano = rw h.0 (generalized_passes t (rw h.0 at h.1) z nano)
