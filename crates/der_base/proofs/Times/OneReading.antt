-- The text of a time has one reading.
use Rattle.std.proofs.Common.{◌≡◌, ◌≢◌, ℕ, ◌-◌, ◌*◌, ◌/◌, ◌^◌, ◌<◌, Option, Some, None, ℤ, pos, neg_ℤ, List, [], ◌∷◌, ◌++◌, length, refl, sym, ap, subst, ◌∙◌, arith, append_assoc, ◌⊎◌, inl, inr, All}
use Rattle.std.proofs.lemmas.List.Elements.{All-head, All-tail}
use Rattle.der_base.specs.declared.time.ASN1DateTime.{ASN1DateTime}
use Rattle.der_base.specs.declared.time.ASN1TimeZone.{ASN1TimeZone}
use Rattle.der_base.specs.declared.time.ASN1TimeZone.TheVariants.{Undefined, Z, Offset}
use Rattle.der_base.specs.Time.{digit, two_digits, four_digits, decimal_from, IsDigit, AreSeconds, IsZone, IsFraction, IsMoment, month_to_minute, IsUtcTime, IsGeneralizedTime}
use Rattle.der_base.proofs.Octets.Identifiers.{head_same}
use Rattle.der_base.proofs.Spellings.Contents.{TimesSame}

pub two_same : (n n' : ℕ) (x y : List ℕ) → n < 100 → n' < 100 → two_digits n ++ x ≡ two_digits n' ++ y → (n ≡ n') × (x ≡ y)
two_same n n' x y h h' e =
    let p = head_same e in
    let q = head_same p.1 in
    (omega (arith, p.0, q.0, h, h'), q.1)

pub four_same : (n n' : ℕ) (x y : List ℕ) → n < 10000 → n' < 10000 → four_digits n ++ x ≡ four_digits n' ++ y → (n ≡ n') × (x ≡ y)
four_same n n' x y h h' e =
    let p = two_same (n / 100) (n' / 100) (two_digits n ++ x) (two_digits n' ++ y) (omega (arith, h)) (omega (arith, h')) e in
    let q = head_same p.1 in
    let r = head_same q.1 in
    (omega (arith, p.0, q.0, r.0, h, h'), r.1)

-- neither a digit nor a mark of a fraction stands in front
abbrev pub IsTail : List ℕ → Type 0
IsTail [] = Unit {0}
IsTail (b ∷ r) = (IsDigit b → ⊥) × (b ≢ 0x2E) × (b ≢ 0x2C)

-- no digit stands in front
abbrev pub IsNoDigit : List ℕ → Type 0
IsNoDigit [] = Unit {0}
IsNoDigit (b ∷ r) = IsDigit b → ⊥

pub digit_is : (n : ℕ) → IsDigit (digit n)
digit_is n = (omega arith, omega arith)

pub seconds_same : (s s' : List ℕ) (n n' : ℕ) (z z' : List ℕ) → AreSeconds s n → AreSeconds s' n' → IsNoDigit z → IsNoDigit z' → s ++ z ≡ s' ++ z' → (s ≡ s') × (n ≡ n') × (z ≡ z')
seconds_same s s' n n' z z' (inl (a, b)) (inl (a', b')) t t' e = (a ∙ sym a', b ∙ sym b', ap (λ l. l ++ z) (sym a) ∙ e ∙ ap (λ l. l ++ z') a')
seconds_same s s' n n' z z' (inl (a, b)) (inr (h', a')) t t' e =
    absurd (subst IsNoDigit (ap (λ l. l ++ z) (sym a) ∙ e ∙ ap (λ l. l ++ z') a') t (digit_is (n' / 10)))
seconds_same s s' n n' z z' (inr (h, a)) (inl (a', b')) t t' e =
    absurd (subst IsNoDigit (ap (λ l. l ++ z') (sym a') ∙ sym e ∙ ap (λ l. l ++ z) a) t' (digit_is (n / 10)))
seconds_same s s' n n' z z' (inr (h, a)) (inr (h', a')) t t' e =
    let p = two_same n n' z z' (omega (arith, h)) (omega (arith, h')) (ap (λ l. l ++ z) (sym a) ∙ e ∙ ap (λ l. l ++ z') a') in
    (a ∙ ap two_digits p.0 ∙ sym a', p.0, p.1)

pub zone_tail : (z : List ℕ) (t : ASN1TimeZone) → IsZone z t → IsTail z
zone_tail z Undefined h = absurd h
zone_tail z Z h = subst IsTail (sym h) ((λ d. omega (arith, d.1)), (λ d. omega (arith, d)), (λ d. omega (arith, d)))
zone_tail z (Offset h m) (a, b, la, lb, inl (ea, eb, e)) = subst IsTail (sym e) ((λ d. omega (arith, d.0)), (λ d. omega (arith, d)), (λ d. omega (arith, d)))
zone_tail z (Offset h m) (a, b, la, lb, inr (ea, eb, e)) = subst IsTail (sym e) ((λ d. omega (arith, d.0)), (λ d. omega (arith, d)), (λ d. omega (arith, d)))

tail_no_digit : (z : List ℕ) → IsTail z → IsNoDigit z
tail_no_digit [] h = h
tail_no_digit (b ∷ z) h = h.0

zone_some : (t : ASN1TimeZone) → IsZone [] t → ⊥
zone_some Undefined h = absurd h
zone_some Z h = omega (arith, ap length h)
zone_some (Offset h m) (a, b, la, lb, inl (ea, eb, e)) = omega (arith, ap length e)
zone_some (Offset h m) (a, b, la, lb, inr (ea, eb, e)) = omega (arith, ap length e)

offsets : (f : ℕ → ℤ) (h m h' m' : ℤ) (a b a' b' : ℕ) → a < 24 → b < 60 → a' < 24 → b' < 60 → h ≡ f a → m ≡ f b → h' ≡ f a' → m' ≡ f b' → two_digits a ++ two_digits b ≡ two_digits a' ++ two_digits b'
    → Offset h m ≡ Offset h' m'
offsets f h m h' m' a b a' b' la lb la' lb' ea eb ea' eb' e =
    let p = two_same a a' (two_digits b) (two_digits b') (omega (arith, la)) (omega (arith, la')) e in
    let q = two_same b b' [] [] (omega (arith, lb)) (omega (arith, lb')) p.1 in
    cc

pub zone_same : (z : List ℕ) (t t' : ASN1TimeZone) → IsZone z t → IsZone z t' → t ≡ t'
zone_same z Undefined t' h h' = absurd h
zone_same z Z Undefined h h' = absurd h'
zone_same z (Offset h m) Undefined g g' = absurd g'
zone_same z Z Z h h' = refl
zone_same z Z (Offset h' m') g (a', b', la', lb', inl (ea', eb', e')) = absurd (omega (arith, (head_same (sym g ∙ e')).0))
zone_same z Z (Offset h' m') g (a', b', la', lb', inr (ea', eb', e')) = absurd (omega (arith, (head_same (sym g ∙ e')).0))
zone_same z (Offset h m) Z (a, b, la, lb, inl (ea, eb, e)) g' = absurd (omega (arith, (head_same (sym g' ∙ e)).0))
zone_same z (Offset h m) Z (a, b, la, lb, inr (ea, eb, e)) g' = absurd (omega (arith, (head_same (sym g' ∙ e)).0))
zone_same z (Offset h m) (Offset h' m') (a, b, la, lb, inl (ea, eb, e)) (a', b', la', lb', inl (ea', eb', e')) = offsets pos h m h' m' a b a' b' la lb la' lb' ea eb ea' eb' (head_same (sym e ∙ e')).1
zone_same z (Offset h m) (Offset h' m') (a, b, la, lb, inr (ea, eb, e)) (a', b', la', lb', inr (ea', eb', e')) =
    offsets (λ n. neg_ℤ (pos n)) h m h' m' a b a' b' la lb la' lb' ea eb ea' eb' (head_same (sym e ∙ e')).1
zone_same z (Offset h m) (Offset h' m') (a, b, la, lb, inl (ea, eb, e)) (a', b', la', lb', inr (ea', eb', e')) = absurd (omega (arith, (head_same (sym e ∙ e')).0))
zone_same z (Offset h m) (Offset h' m') (a, b, la, lb, inr (ea, eb, e)) (a', b', la', lb', inl (ea', eb', e')) = absurd (omega (arith, (head_same (sym e ∙ e')).0))

abbrev IsLastZone : List ℕ → ASN1TimeZone → Type 0
IsLastZone z t = ((z ≡ []) × (t ≡ Undefined)) ⊎ IsZone z t

last_zone_same : (z : List ℕ) (t t' : ASN1TimeZone) → IsLastZone z t → IsLastZone z t' → t ≡ t'
last_zone_same z t t' (inl (a, b)) (inl (a', b')) = b ∙ sym b'
last_zone_same z t t' (inl (a, b)) (inr h') = absurd (zone_some t' (subst (λ l. IsZone l t') a h'))
last_zone_same z t t' (inr h) (inl (a', b')) = absurd (zone_some t (subst (λ l. IsZone l t) a' h))
last_zone_same z t t' (inr h) (inr h') = zone_same z t t' h h'

last_zone_tail : (z : List ℕ) (t : ASN1TimeZone) → IsLastZone z t → IsTail z
last_zone_tail z t (inl (a, b)) = subst IsTail (sym a) tt
last_zone_tail z t (inr h) = zone_tail z t h

pub digits_same : (ds ds' z z' : List ℕ) → All IsDigit ds → All IsDigit ds' → IsNoDigit z → IsNoDigit z' → ds ++ z ≡ ds' ++ z' → (ds ≡ ds') × (z ≡ z')
digits_same [] [] z z' h h' t t' e = (refl, e)
digits_same [] (d' ∷ ds') z z' h h' t t' e = absurd (subst IsNoDigit e t (All-head IsDigit d' ds' h'))
digits_same (d ∷ ds) [] z z' h h' t t' e = absurd (subst IsNoDigit (sym e) t' (All-head IsDigit d ds h))
digits_same (d ∷ ds) (d' ∷ ds') z z' h h' t t' e =
    let p = head_same e in
    let q = digits_same ds ds' z z' (All-tail IsDigit d ds h) (All-tail IsDigit d' ds' h') t t' p.1 in
    (cc, q.1)

abbrev IsLastFraction : List ℕ → List ℕ → Option ℕ → Type 0
IsLastFraction seconds fraction x = ((fraction ≡ []) × (x ≡ None)) ⊎ ((seconds ≢ []) × (n : ℕ) × IsFraction fraction n × (x ≡ Some n))

not_marked : (z ds : List ℕ) (mark : ℕ) → IsTail z → (mark ≡ 0x2E) ⊎ (mark ≡ 0x2C) → z ≡ mark ∷ ds → ⊥
not_marked z ds mark t (inl h) e = (subst IsTail e t).1 h
not_marked z ds mark t (inr h) e = (subst IsTail e t).2 h

fraction_same : (s s' f f' z z' : List ℕ) (x x' : Option ℕ) → IsLastFraction s f x → IsLastFraction s' f' x' → IsTail z → IsTail z' → f ++ z ≡ f' ++ z' → (x ≡ x') × (z ≡ z')
fraction_same s s' f f' z z' x x' (inl (a, b)) (inl (a', b')) t t' e = (b ∙ sym b', ap (λ l. l ++ z) (sym a) ∙ e ∙ ap (λ l. l ++ z') a')
fraction_same s s' f f' z z' x x' (inl (a, b)) (inr (hs', n', (mark', ds', m', e', hd', lo', hi', v'), b')) t t' e =
    absurd (not_marked z (ds' ++ z') mark' t m' (ap (λ l. l ++ z) (sym a) ∙ e ∙ ap (λ l. l ++ z') e'))
fraction_same s s' f f' z z' x x' (inr (hs, n, (mark, ds, m, d, hd, lo, hi, v), b)) (inl (a', b')) t t' e =
    absurd (not_marked z' (ds ++ z) mark t' m (ap (λ l. l ++ z') (sym a') ∙ sym e ∙ ap (λ l. l ++ z) d))
fraction_same s s' f f' z z' x x' (inr (hs, n, (mark, ds, m, d, hd, lo, hi, v), b)) (inr (hs', n', (mark', ds', m', d', hd', lo', hi', v'), b')) t t' e =
    let p = head_same (ap (λ l. l ++ z) (sym d) ∙ e ∙ ap (λ l. l ++ z') d') in
    let q = digits_same ds ds' z z' hd hd' (tail_no_digit z t) (tail_no_digit z' t') p.1 in
    let r : n ≡ n' = v ∙ ap (λ l. decimal_from 0 l * 10 ^ (9 - length l)) q.0 ∙ sym v' in
    (b ∙ ap Some r ∙ sym b', q.1)

fraction_no_digit : (s f z : List ℕ) (x : Option ℕ) → IsLastFraction s f x → IsTail z → IsNoDigit (f ++ z)
fraction_no_digit s f z x (inl (a, b)) t = subst (λ l. IsNoDigit (l ++ z)) (sym a) (tail_no_digit z t)
fraction_no_digit s f z x (inr (hs, n, (mark, ds, inl m, d, hd, lo, hi, v), b)) t = subst (λ l. IsNoDigit (l ++ z)) (sym d) (λ g. omega (arith, g.0, m))
fraction_no_digit s f z x (inr (hs, n, (mark, ds, inr m, d, hd, lo, hi, v), b)) t = subst (λ l. IsNoDigit (l ++ z)) (sym d) (λ g. omega (arith, g.0, m))

pub record SameMoment (t t' : ASN1DateTime) (x y : List ℕ) : Type 0 where
  pub month : t.month ≡ t'.month
  pub day : t.day ≡ t'.day
  pub hour : t.hour ≡ t'.hour
  pub minute : t.minute ≡ t'.minute
  pub rest : x ≡ y

pub moment_same : (t t' : ASN1DateTime) (x y : List ℕ) → IsMoment t → IsMoment t' → month_to_minute t ++ x ≡ month_to_minute t' ++ y → SameMoment t t' x y
moment_same t t' x y m m' e =
    let a = two_same t.month t'.month (two_digits t.day ++ (two_digits t.hour ++ (two_digits t.minute ++ x))) (two_digits t'.day ++ (two_digits t'.hour ++ (two_digits t'.minute ++ y)))
    (omega (arith, m.month)) (omega (arith, m'.month)) e in
    let b = two_same t.day t'.day (two_digits t.hour ++ (two_digits t.minute ++ x)) (two_digits t'.hour ++ (two_digits t'.minute ++ y)) (omega (arith, m.day)) (omega (arith, m'.day)) a.1 in
    let c = two_same t.hour t'.hour (two_digits t.minute ++ x) (two_digits t'.minute ++ y) (omega (arith, m.hour)) (omega (arith, m'.hour)) b.1 in
    let d = two_same t.minute t'.minute x y (omega (arith, m.minute)) (omega (arith, m'.minute)) c.1 in
    record { month = a.0; day = b.0; hour = c.0; minute = d.0; rest = d.1 }

made : (year month day hour minute second : ℕ) → Option ℕ → ASN1TimeZone → ASN1DateTime
made a b c d e f n z = record { year = a; month = b; day = c; hour = d; minute = e; second = f; nanosecond = n; tz = z }

pub date_same : (t t' : ASN1DateTime) → t.year ≡ t'.year → t.month ≡ t'.month → t.day ≡ t'.day → t.hour ≡ t'.hour → t.minute ≡ t'.minute → t.second ≡ t'.second → t.nanosecond ≡ t'.nanosecond
    → t.tz ≡ t'.tz → t ≡ t'
unfolding made
date_same t t' a b c d e f n z =
    let g : made t.year t.month t.day t.hour t.minute t.second t.nanosecond t.tz ≡ made t'.year t'.month t'.day t'.hour t'.minute t'.second t'.nanosecond t'.tz = cc in g

pub utc_same : (w : List ℕ) (t t' : ASN1DateTime) → IsUtcTime w t → IsUtcTime w t' → t ≡ t'
utc_same w t t' (hy, hm, hn, s, z, hs, hz, e) (hy', hm', hn', s', z', hs', hz', e') =
    let y = two_same t.year t'.year (month_to_minute t ++ (s ++ z)) (month_to_minute t' ++ (s' ++ z')) hy hy' (sym e ∙ e') in
    let m = moment_same t t' (s ++ z) (s' ++ z') hm hm' y.1 in
    let q = seconds_same s s' t.second t'.second z z' hs hs' (tail_no_digit z (zone_tail z t.tz hz)) (tail_no_digit z' (zone_tail z' t'.tz hz')) m.rest in
    date_same t t' y.0 m.month m.day m.hour m.minute q.1 (hn ∙ sym hn') (zone_same z' t.tz t'.tz (subst (λ l. IsZone l t.tz) q.2 hz) hz')

pub generalized_same : (w : List ℕ) (t t' : ASN1DateTime) → IsGeneralizedTime w t → IsGeneralizedTime w t' → t ≡ t'
generalized_same w t t' (hy, hm, s, f, z, hs, hf, hz, e) (hy', hm', s', f', z', hs', hf', hz', e') =
    let g = ap (λ l. four_digits t.year ++ (month_to_minute t ++ l)) (sym (append_assoc s f z)) in
    let g' = ap (λ l. four_digits t'.year ++ (month_to_minute t' ++ l)) (append_assoc s' f' z') in
    let k = last_zone_tail z t.tz hz in
    let k' = last_zone_tail z' t'.tz hz' in
    let y = four_same t.year t'.year (month_to_minute t ++ (s ++ (f ++ z))) (month_to_minute t' ++ (s' ++ (f' ++ z'))) hy hy' (g ∙ sym e ∙ e' ∙ g') in
    let m = moment_same t t' (s ++ (f ++ z)) (s' ++ (f' ++ z')) hm hm' y.1 in
    let q = seconds_same s s' t.second t'.second (f ++ z) (f' ++ z') hs hs' (fraction_no_digit s f z t.nanosecond hf k) (fraction_no_digit s' f' z' t'.nanosecond hf' k') m.rest in
    let r = fraction_same s s' f f' z z' t.nanosecond t'.nanosecond hf hf' k k' q.2 in
    date_same t t' y.0 m.month m.day m.hour m.minute q.1 r.0 (last_zone_same z' t.tz t'.tz (subst (λ l. IsLastZone l t.tz) r.1 hz) hz')

-- a text is the text of one time
pub times_same : TimesSame
times_same k w t t' (inl (a, h)) (inl (a', h')) = utc_same w t t' h h'
times_same k w t t' (inl (a, h)) (inr (a', h')) = absurd (omega (arith, a, a'))
times_same k w t t' (inr (a, h)) (inl (a', h')) = absurd (omega (arith, a, a'))
times_same k w t t' (inr (a, h)) (inr (a', h')) = generalized_same w t t' h h'
