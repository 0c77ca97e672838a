-- Readings of the parts of a time, and what they say together.
use Rattle.std.proofs.Common.{◌≡◌, ◌≢◌, ℕ, suc, ◌+◌, ◌-◌, ◌*◌, ◌/◌, ◌%◌, ◌^◌, ◌<◌, ◌≤◌, ◌⊎◌, Option, Some, None, List}
use Rattle.std.proofs.Common.{[], ◌∷◌, ◌++◌, length, pow-add, take, drop, get_or, add-one, All, refl, sym, ap, subst}
use Rattle.std.proofs.Common.{◌∙◌, arith, inl, inr, append_assoc}
use Rattle.std.specs.Option.{unwrap_or, MatchOption}
use Rattle.std.proofs.Math.Nat.{pow-le-pow_right, one-le-pow, mul-le-mul_right}
use Rattle.std.proofs.Math.Seq.{take-suc}
use Rattle.std.proofs.lemmas.List.{take-append-drop, length-take-le}
use Rattle.der_base.specs.declared.time.ASN1DateTime.{ASN1DateTime}
use Rattle.der_base.specs.declared.time.ASN1TimeZone.{ASN1TimeZone}
use Rattle.der_base.specs.LeafRefusal.{IsNotTime}
use Rattle.der_base.specs.Time.{two_digits, four_digits, decimal_from, IsDigit, AreSeconds, IsZone, IsFraction, IsMoment, month_to_minute, IsUtcTime, IsGeneralizedTime, IsTimeText}
use Rattle.der_base.specs.Inner.TimeParts.{BeginsWithNo, IsMark, BeginsWithSeconds, BeginsWithFraction, BeginsWithFineSeconds, IsLastZone}
use Rattle.der_base.proofs.Octets.Identifiers.{head_same}
use Rattle.der_base.proofs.Times.OneReading.{times_same, two_same, four_same, moment_same, digit_is, IsTail, zone_tail, digits_same, IsNoDigit}
use Rattle.der_base.proofs.Times.TimeTexts.{decimal_from_append}
use Rattle.der_base.proofs.Times.TimesDecided.{two_last}

-- the octets behind two of four digits
pub years_behind : (w q rest : List ℕ) (century n : ℕ) → w ≡ two_digits century ++ q → w ≡ four_digits n ++ rest → q ≡ two_digits (n % 100) ++ rest
years_behind w q rest century n e f = (head_same (head_same (sym e ∙ f)).1).1 ∙ ap (λ l. l ++ rest) (two_last n)

-- what stands in front of a zone, or of nothing
tail_no_digit : (z : List ℕ) → IsTail z → BeginsWithNo IsDigit z
tail_no_digit [] h = tt
tail_no_digit (b ∷ z) h = h.0

tail_no_mark : (z : List ℕ) → IsTail z → BeginsWithNo IsMark z
tail_no_mark [] h = tt
tail_no_mark (b ∷ z) h = λ m. elim m [ inl e ↦ h.1 e | inr e ↦ h.2 e ]

no_digit : (z : List ℕ) → BeginsWithNo IsDigit z → IsNoDigit z
no_digit [] h = tt
no_digit (b ∷ z) h = h

-- seconds have one reading
pub seconds_once : (w rest rest' : List ℕ) (x x' : Option ℕ) → BeginsWithSeconds w x rest → BeginsWithSeconds w x' rest' → (x ≡ x') × (rest ≡ rest')
seconds_once w rest rest' None None h g = (refl, sym h.1 ∙ g.1)
seconds_once w rest rest' None (Some n) h g = absurd (subst (BeginsWithNo IsDigit) g.1 h.0 (digit_is (n / 10)))
seconds_once w rest rest' (Some n) None h g = absurd (subst (BeginsWithNo IsDigit) h.1 g.0 (digit_is (n / 10)))
seconds_once w rest rest' (Some n) (Some n') h g = let e = two_same n n' rest rest' (omega (arith, h.0)) (omega (arith, g.0)) (sym h.1 ∙ g.1) in (ap Some e.0, e.1)

-- seconds of a text are read
seconds_read : (s z : List ℕ) (n : ℕ) → AreSeconds s n → BeginsWithNo IsDigit z → (x : Option ℕ) × (unwrap_or x 0 ≡ n) × BeginsWithSeconds (s ++ z) x z
seconds_read s z n (inl h) g = (None, sym h.1, rw h.0 (g, refl))
seconds_read s z n (inr h) g = (Some n, refl, (h.0, ap (λ l. l ++ z) h.1))

-- seconds that were read are those of a text
seconds_are : (w z : List ℕ) (x : Option ℕ) (n : ℕ) → n ≡ unwrap_or x 0 → BeginsWithSeconds w x z → (s : List ℕ) × AreSeconds s n × (w ≡ s ++ z)
seconds_are w z None n e h = ([], inl (refl, e), h.1)
seconds_are w z (Some m) n e h = (two_digits m, inr (rw e h.0, ap two_digits (sym e)), h.1)

pub not_utc : (w : List ℕ) → ((t : ASN1DateTime) → ¬ IsUtcTime w t) → IsNotTime 23 w
not_utc w n t (inl h) = n t h.1
not_utc w n t (inr h) = omega (arith, h.0)

pub not_generalized : (w : List ℕ) → ((t : ASN1DateTime) → ¬ IsGeneralizedTime w t) → IsNotTime 24 w
not_generalized w n t (inl h) = omega (arith, h.0)
not_generalized w n t (inr h) = n t h.1

-- what stands behind the minutes of a UTCTime
pub record IsUtcEnd (w : List ℕ) (t : ASN1DateTime) : Type 0 where
  pub second : Option ℕ
  pub zone : List ℕ
  pub reads : BeginsWithSeconds w second zone
  pub ends : IsZone zone t.tz

pub utc_end : (w q r : List ℕ) (y : ℕ) (m t : ASN1DateTime) → y ≤ 99 → w ≡ two_digits y ++ q → IsMoment m → q ≡ month_to_minute m ++ r → IsUtcTime w t → IsUtcEnd r t
utc_end w q r y m t ly e hm f (hy, hm', hn, s, z, hs, hz, e') =
    let a = two_same y t.year q (month_to_minute t ++ (s ++ z)) (omega arith) hy (sym e ∙ e') in
    let b = moment_same m t r (s ++ z) hm hm' (sym f ∙ a.1) in
    let k = seconds_read s z t.second hs (tail_no_digit z (zone_tail z t.tz hz)) in
    record { second = k.0; zone = z; reads = subst (λ l. BeginsWithSeconds l k.0 z) (sym b.rest) k.2; ends = hz }

-- the parts that were read are a UTCTime
pub utc_found : (w q r z : List ℕ) (y second : ℕ) (m : ASN1DateTime) (x : Option ℕ) (tz : ASN1TimeZone) → y ≤ 99 → m.year ≡ y → w ≡ two_digits y ++ q → IsMoment m → q ≡ month_to_minute m ++ r
    → second ≡ unwrap_or x 0 → BeginsWithSeconds r x z → IsZone z tz
    → IsUtcTime w (record { year = m.year; month = m.month; day = m.day; hour = m.hour; minute = m.minute; second = second; nanosecond = None; tz = tz })
utc_found w q r z y second m x tz ly ey e hm f es hs hz =
    let k = seconds_are r z x second es hs in (
      omega arith,
      record { month = hm.month; day = hm.day; hour = hm.hour; minute = hm.minute },
      refl,
      k.0,
      z,
      k.1,
      hz,
      e ∙ ap (λ l. two_digits y ++ l) (f ∙ ap (λ l. month_to_minute m ++ l) k.2) ∙ ap (λ n. two_digits n ++ (month_to_minute m ++ (k.0 ++ z))) (sym ey),
    )

-- a fraction has one reading
pub fraction_once : (w rest rest' : List ℕ) (x x' : Option ℕ) → BeginsWithFraction w x rest → BeginsWithFraction w x' rest' → (x ≡ x') × (rest ≡ rest')
fraction_once w rest rest' None None h g = (refl, sym h.1 ∙ g.1)
fraction_once w rest rest' None (Some n) h (f, (mark, ds, m, e, all, some, few, v), stop, k) = absurd (subst (BeginsWithNo IsMark) (k ∙ ap (λ l. l ++ rest') e) h.0 m)
fraction_once w rest rest' (Some n) None (f, (mark, ds, m, e, all, some, few, v), stop, k) g = absurd (subst (BeginsWithNo IsMark) (k ∙ ap (λ l. l ++ rest) e) g.0 m)
fraction_once w rest rest' (Some n) (Some n') (f, (mark, ds, m, e, all, some, few, v), stop, k) (f', (mark', ds', m', e', all', some', few', v'), stop', k') =
    let p = head_same (sym (k ∙ ap (λ l. l ++ rest) e) ∙ (k' ∙ ap (λ l. l ++ rest') e')) in
    let q = digits_same ds ds' rest rest' all all' (no_digit rest stop) (no_digit rest' stop') p.1 in
    (ap Some (v ∙ ap (λ l. decimal_from 0 l * 10 ^ (9 - length l)) q.0 ∙ sym v'), q.1)

-- so many digits behind a mark are no fraction
pub fraction_refused : (b k : ℕ) (behind rest : List ℕ) (x : Option ℕ) → IsMark b → k ≤ length behind → All IsDigit (take k behind) → BeginsWithNo IsDigit (drop k behind) → ((k ≡ 0) ⊎ (9 < k))
    → ¬ BeginsWithFraction (b ∷ behind) x rest
fraction_refused b k behind rest None m l all stop out h = h.0 m
fraction_refused b k behind rest (Some n) m l all stop out (f, (mark, ds, m', e, all', some, few, v), stop', g) =
    let p = head_same (g ∙ ap (λ l. l ++ rest) e) in
    let q = digits_same (take k behind) ds (drop k behind) rest all all' (no_digit (drop k behind) stop) (no_digit rest stop') (take-append-drop k behind ∙ p.1) in
    let size : k ≡ length ds = sym (length-take-le k behind l) ∙ ap length q.0 in
    elim out [ inl z ↦ omega arith | inr z ↦ omega arith ]

pub fraction_found : (w behind digits rest : List ℕ) (b k n : ℕ) → w ≡ b ∷ behind → IsMark b → k ≤ length behind → All IsDigit (take k behind) → BeginsWithNo IsDigit (drop k behind) → k ≢ 0 → k ≤ 9
    → digits ≡ take k behind → rest ≡ drop k behind → n ≡ decimal_from 0 digits * 10 ^ (9 - length digits) → BeginsWithFraction w (Some n) rest
fraction_found w behind digits rest b k n e m l all stop some few d r v =
    let size : length digits ≡ k = ap length d ∙ length-take-le k behind l in (
      b ∷ digits,
      (b, digits, m, refl, subst (All IsDigit) (sym d) all, omega arith, omega arith, v),
      subst (BeginsWithNo IsDigit) (sym r) stop,
      e ∙ ap (λ l. b ∷ l) (sym (take-append-drop k behind) ∙ ap (λ l. l ++ drop k behind) (sym d) ∙ ap (λ l. digits ++ l) (sym r)),
    )

-- the digits of a fraction, one after another
pub digits_more : (ds : List ℕ) (i : ℕ) → i < length ds → decimal_from 0 (take (i + 1) ds) ≡ decimal_from 0 (take i ds) * 10 + (get_or ds i 0 - 0x30)
digits_more ds i l = rw (add-one i, take-suc ds i 0 l) (decimal_from_append 0 (take i ds) (get_or ds i 0 ∷ []))

pub few_digits : (i : ℕ) → i ≤ 8 → 10 ^ i ≤ 10 ^ 8
few_digits i l = pow-le-pow_right {n = 10} (omega arith) l

pub few_nanoseconds : (n k : ℕ) → k ≤ 9 → n < 10 ^ k → n * 10 ^ (9 - k) < 10 ^ 9
few_nanoseconds n k l h =
    let a : suc n * 10 ^ (9 - k) ≤ 10 ^ k * 10 ^ (9 - k) = mul-le-mul_right (10 ^ (9 - k)) h in
    let b : 10 ^ k * 10 ^ (9 - k) ≡ 10 ^ 9 = sym (pow-add 10 k (9 - k)) ∙ ap (λ e. 10 ^ e) (let q : k + (9 - k) ≡ 9 = omega arith in q) in
    let c : 1 ≤ 10 ^ (9 - k) = one-le-pow (9 - k) 10 (omega arith) in
    omega arith

-- seconds with their fraction have one reading
pub fine_once : (w rest rest' : List ℕ) (n n' : ℕ) (x x' : Option ℕ) → BeginsWithFineSeconds w n x rest → BeginsWithFineSeconds w n' x' rest' → rest ≡ rest'
fine_once w rest rest' n n' x x' (inl h) (inl g) = (seconds_once w rest rest' None None h.2 g.2).1
fine_once w rest rest' n n' x x' (inl h) (inr (q, g, f)) = absurd (let e = (seconds_once w rest q None (Some n') h.2 g).0 in cc)
fine_once w rest rest' n n' x x' (inr (q, h, f)) (inl g) = absurd (let e = (seconds_once w q rest' (Some n) None h g.2).0 in cc)
fine_once w rest rest' n n' x x' (inr (q, h, f)) (inr (q', h', f')) =
    let e = seconds_once w q q' (Some n) (Some n') h h' in (fraction_once q' rest rest' x x' (subst (λ l. BeginsWithFraction l x rest) e.1 f) f').1

-- behind seconds that cannot be read nothing can be
pub no_fine : (w : List ℕ) → ((x : Option ℕ) (rest : List ℕ) → ¬ BeginsWithSeconds w x rest) → (n : ℕ) (x : Option ℕ) (rest : List ℕ) → ¬ BeginsWithFineSeconds w n x rest
no_fine w none n x rest (inl h) = none None rest h.2
no_fine w none n x rest (inr (q, h, f)) = none (Some n) q h

-- what stands behind the minutes of a GeneralizedTime
pub record IsGeneralizedEnd (w : List ℕ) (t : ASN1DateTime) : Type 0 where
  pub zone : List ℕ
  pub reads : BeginsWithFineSeconds w t.second t.nanosecond zone
  pub ends : IsLastZone zone t.tz

abbrev HasFraction : List ℕ → List ℕ → Option ℕ → Type 0
HasFraction s f x = ((f ≡ []) × (x ≡ None)) ⊎ ((s ≢ []) × (n : ℕ) × IsFraction f n × (x ≡ Some n))

fine_read : (s f z : List ℕ) (n : ℕ) (x : Option ℕ) → AreSeconds s n → HasFraction s f x → BeginsWithNo IsDigit z → BeginsWithNo IsMark z → BeginsWithFineSeconds (s ++ (f ++ z)) n x z
fine_read s f z n x (inl h) (inl g) d m = rw (h.0, g.0) (inl (h.1, g.1, (d, refl)))
fine_read s f z n x (inl h) (inr g) d m = absurd (g.0 h.0)
fine_read s f z n x (inr h) (inl g) d m = rw (h.1, g.0, g.1) (inr (z, (h.0, refl), (m, refl)))
fine_read s f z n x (inr h) (inr (some, k, is, e)) d m = rw (h.1, e) (inr (f ++ z, (h.0, refl), (f, is, d, refl)))

fine_is : (w z : List ℕ) (n : ℕ) (x : Option ℕ) → BeginsWithFineSeconds w n x z → (s f : List ℕ) × AreSeconds s n × HasFraction s f x × (w ≡ s ++ (f ++ z))
fine_is w z n x (inl h) = ([], [], inl (refl, h.0), inl (refl, h.1), h.2.1)
fine_is w z n None (inr (q, h, f)) = (two_digits n, [], inr (h.0, refl), inl (refl, refl), h.1 ∙ ap (λ l. two_digits n ++ l) f.1)
fine_is w z n (Some k) (inr (q, h, (f, is, stop, e))) = (two_digits n, f, inr (h.0, refl), inr ((λ e. cc), k, is, refl), h.1 ∙ ap (λ l. two_digits n ++ l) e)

last_zone_tail : (z : List ℕ) (x : ASN1TimeZone) → IsLastZone z x → IsTail z
last_zone_tail z x (inl h) = subst IsTail (sym h.0) tt
last_zone_tail z x (inr h) = zone_tail z x h

pub generalized_behind : (w q : List ℕ) (y : ℕ) (t : ASN1DateTime) → y < 10000 → w ≡ four_digits y ++ q → IsGeneralizedTime w t
    → (r : List ℕ) × (q ≡ month_to_minute t ++ r) × IsMoment t × IsGeneralizedEnd r t
generalized_behind w q y t ly e (hy, hm, s, f, z, hs, hf, hz, e') =
    let k = last_zone_tail z t.tz hz in
    let a = four_same y t.year q (month_to_minute t ++ (s ++ (f ++ z))) ly hy (sym e ∙ e' ∙ ap (λ l. four_digits t.year ++ (month_to_minute t ++ l)) (append_assoc s f z)) in
    (s ++ (f ++ z), a.1, hm, record { zone = z; reads = fine_read s f z t.second t.nanosecond hs hf (tail_no_digit z k) (tail_no_mark z k); ends = hz })

pub generalized_end : (w q r : List ℕ) (y : ℕ) (m t : ASN1DateTime) → y < 10000 → w ≡ four_digits y ++ q → IsMoment m → q ≡ month_to_minute m ++ r → IsGeneralizedTime w t → IsGeneralizedEnd r t
generalized_end w q r y m t ly e hm f h =
    let b = generalized_behind w q y t ly e h in
    let c = moment_same m t r b.0 hm b.2 (sym f ∙ b.1) in
    subst (λ l. IsGeneralizedEnd l t) (sym c.rest) b.3

-- the parts that were read are a GeneralizedTime
pub generalized_found : (w q r z : List ℕ) (y second : ℕ) (m : ASN1DateTime) (x : Option ℕ) (tz : ASN1TimeZone) → y < 10000 → m.year ≡ y → w ≡ four_digits y ++ q → IsMoment m
    → q ≡ month_to_minute m ++ r
    → BeginsWithFineSeconds r second x z → IsLastZone z tz
    → IsGeneralizedTime w (record { year = m.year; month = m.month; day = m.day; hour = m.hour; minute = m.minute; second = second; nanosecond = x; tz = tz })
generalized_found w q r z y second m x tz ly ey e hm f hs hz =
    let k = fine_is r z second x hs in (
      omega arith,
      record { month = hm.month; day = hm.day; hour = hm.hour; minute = hm.minute },
      k.0,
      k.1,
      z,
      k.2,
      k.3,
      hz,
      e ∙ ap (λ l. four_digits y ++ l) (f ∙ ap (λ l. month_to_minute m ++ l) (k.4 ∙ sym (append_assoc k.0 k.1 z))) ∙ ap (λ n. four_digits n ++ (month_to_minute m ++ ((k.0 ++ k.1) ++ z))) (sym ey),
    )

-- a reader of one type reads that type's texts
pub utc_text : (k : ℕ) (w : List ℕ) (o : Option ASN1DateTime) → k ≡ 23 → MatchOption o (IsNotTime 23 w) (λ t. IsUtcTime w t) → MatchOption o (IsNotTime k w) (λ t. IsTimeText k w t)
utc_text k w None e h = subst (λ k. IsNotTime k w) (sym e) h
utc_text k w (Some t) e h = inl (e, h)

pub generalized_text : (k : ℕ) (w : List ℕ) (o : Option ASN1DateTime) → k ≡ 24 → MatchOption o (IsNotTime 24 w) (λ t. IsGeneralizedTime w t) → MatchOption o (IsNotTime k w) (λ t. IsTimeText k w t)
generalized_text k w None e h = subst (λ k. IsNotTime k w) (sym e) h
generalized_text k w (Some t) e h = inr (e, h)

-- a text has one reading, so it is the one that was found
pub time_only : (k : ℕ) (w : List ℕ) (o : Option ASN1DateTime) → MatchOption o (IsNotTime k w) (λ t. IsTimeText k w t) → (t : ASN1DateTime) → IsTimeText k w t → o ≡ Some t
time_only k w None h t g = absurd (h t g)
time_only k w (Some u) h t g = ap Some (times_same k w u t h g)
