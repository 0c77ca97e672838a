-- Whether octets are the text of a time can be told.
use Rattle.std.proofs.Common.{◌≡◌, ◌≢◌, ℕ, ◌-◌, ◌*◌, ◌/◌, ◌%◌, ◌^◌, ◌<◌, ◌≤◌, ◌⊎◌, ◌==◌, Bool, true, false}
use Rattle.std.proofs.Common.{if◌then◌else◌, Option, Some, None, pos, neg_ℤ, List, [], ◌∷◌, ◌++◌, length, refl, sym, ap}
use Rattle.std.proofs.Common.{subst, ◌∙◌, arith, inl, inr, append_assoc, codes, All}
use Rattle.der_base.specs.declared.time.ASN1DateTime.{ASN1DateTime}
use Rattle.der_base.specs.declared.time.ASN1TimeZone.{ASN1TimeZone}
use Rattle.der_base.specs.declared.time.ASN1TimeZone.TheVariants.{Undefined, Z, Offset}
use Rattle.der_base.specs.Time.{two_digits, four_digits, decimal_from, IsDigit, AreSeconds, IsZone, IsFraction, month_to_minute, IsUtcTime, IsGeneralizedTime, IsTimeText, digit}
use Rattle.der_base.specs.LeafRefusal.{HasLooseFraction, HasNoSeconds, IsNotTime, time_tests}
use Rattle.der_base.proofs.Leaves.Refusals.{AllDecided}
use Rattle.der_base.proofs.Leaves.Decided.{Decided, decided_like, decided_and, decided_or, decided_not, decided_equal}
use Rattle.der_base.proofs.Leaves.Decided.{decided_at_most, decided_list, decided_empty, decided_each, decided_some}
use Rattle.der_base.proofs.Leaves.Decided.{decided_cut}

decided_digit : (b : ℕ) → Decided (IsDigit b)
decided_digit b = decided_and _ _ (decided_at_most 0x30 b) (decided_at_most b 0x39)

-- the seconds that a text can be
decided_seconds : (s : List ℕ) → Decided ((n : ℕ) × AreSeconds s n)
decided_seconds s = decided_like ((s ≡ []) ⊎ ((n : ℕ) × (n < 60) × (s ≡ two_digits n))) ((n : ℕ) × AreSeconds s n) there back
    (decided_or _ _ (decided_empty s) (decided_some 60 (λ n. s ≡ two_digits n) (λ n. decided_list s (two_digits n))))
  where
    there : (s ≡ []) ⊎ ((n : ℕ) × (n < 60) × (s ≡ two_digits n)) → (n : ℕ) × AreSeconds s n
    there (inl e) = (0, inl (e, refl))
    there (inr (n, l, e)) = (n, inr (l, e))

    back : ((n : ℕ) × AreSeconds s n) → (s ≡ []) ⊎ ((n : ℕ) × (n < 60) × (s ≡ two_digits n))
    back (n, inl h) = inl h.0
    back (n, inr h) = inr (n, h.0, h.1)

-- hours and minutes behind a sign
abbrev IsOffset : List ℕ → List ℕ → Type 0
IsOffset sign z = (h : ℕ) × (h < 24) × ((m : ℕ) × (m < 60) × (z ≡ sign ++ two_digits h ++ two_digits m))

decided_offset : (sign z : List ℕ) → Decided (IsOffset sign z)
decided_offset sign z =
    decided_some 24 (λ h. (m : ℕ) × (m < 60) × (z ≡ sign ++ two_digits h ++ two_digits m))
    (λ h. decided_some 60 (λ m. z ≡ sign ++ two_digits h ++ two_digits m) (λ m. decided_list z (sign ++ two_digits h ++ two_digits m)))

decided_zone : (z : List ℕ) → Decided ((x : ASN1TimeZone) × IsZone z x)
decided_zone z = decided_like ((z ≡ codes "Z") ⊎ (IsOffset (codes "+") z ⊎ IsOffset (codes "-") z)) ((x : ASN1TimeZone) × IsZone z x) there back
    (decided_or _ _ (decided_list z (codes "Z")) (decided_or _ _ (decided_offset (codes "+") z) (decided_offset (codes "-") z)))
  where
    there : (z ≡ codes "Z") ⊎ (IsOffset (codes "+") z ⊎ IsOffset (codes "-") z) → (x : ASN1TimeZone) × IsZone z x
    there (inl e) = (Z, e)
    there (inr (inl (h, l, (m, g, e)))) = (Offset (pos h) (pos m), (h, m, l, g, inl (refl, refl, e)))
    there (inr (inr (h, l, (m, g, e)))) = (Offset (neg_ℤ (pos h)) (neg_ℤ (pos m)), (h, m, l, g, inr (refl, refl, e)))

    back : ((x : ASN1TimeZone) × IsZone z x) → (z ≡ codes "Z") ⊎ (IsOffset (codes "+") z ⊎ IsOffset (codes "-") z)
    back (Undefined, h) = absurd h
    back (Z, e) = inl e
    back (Offset a b, (h, m, l, g, inl e)) = inr (inl (h, l, (m, g, e.2)))
    back (Offset a b, (h, m, l, g, inr e)) = inr (inr (h, l, (m, g, e.2)))

-- a zone, or none
abbrev IsLastZone : List ℕ → ASN1TimeZone → Type 0
IsLastZone z x = ((z ≡ []) × (x ≡ Undefined)) ⊎ IsZone z x

decided_last_zone : (z : List ℕ) → Decided ((x : ASN1TimeZone) × IsLastZone z x)
decided_last_zone z = decided_like ((z ≡ []) ⊎ ((x : ASN1TimeZone) × IsZone z x)) ((x : ASN1TimeZone) × IsLastZone z x) there back (decided_or _ _ (decided_empty z) (decided_zone z))
  where
    there : (z ≡ []) ⊎ ((x : ASN1TimeZone) × IsZone z x) → (x : ASN1TimeZone) × IsLastZone z x
    there (inl e) = (Undefined, inl (e, refl))
    there (inr (x, h)) = (x, inr h)

    back : ((x : ASN1TimeZone) × IsLastZone z x) → (z ≡ []) ⊎ ((x : ASN1TimeZone) × IsZone z x)
    back (x, inl h) = inl h.0
    back (x, inr h) = inr (x, h)

abbrev IsMarked : ℕ → List ℕ → List ℕ → Type 0
IsMarked mark f ds = (f ≡ mark ∷ ds) × All IsDigit ds × (1 ≤ length ds) × (length ds ≤ 9)

decided_marked : (mark : ℕ) (f : List ℕ) → Decided ((ds : List ℕ) × IsMarked mark f ds)
decided_marked mark [] = inr (λ h. let e = h.1.0 in cc)
decided_marked mark (b ∷ ds) = decided_like ((b ≡ mark) × (All IsDigit ds × ((1 ≤ length ds) × (length ds ≤ 9)))) ((ds' : List ℕ) × IsMarked mark (b ∷ ds) ds')
    (λ h. (ds, ((let e : b ≡ mark = h.0 in cc), h.1.0, h.1.1.0, h.1.1.1)))
    (λ (ds', (e, all, some, few)). let k : ds' ≡ ds = cc in ((cc), (subst (λ l. All IsDigit l) k all, (subst (λ l. 1 ≤ length l) k some, subst (λ l. length l ≤ 9) k few))))
    (decided_and _ _ (decided_equal b mark) (decided_and _ _ (decided_each IsDigit ds decided_digit) (decided_and _ _ (decided_at_most 1 (length ds)) (decided_at_most (length ds) 9))))

-- a fraction behind seconds, or none
abbrev pub IsLastFraction : List ℕ → List ℕ → Option ℕ → Type 0
IsLastFraction s f x = ((f ≡ []) × (x ≡ None)) ⊎ ((s ≢ []) × (n : ℕ) × IsFraction f n × (x ≡ Some n))

decided_fraction : (s f : List ℕ) → Decided ((x : Option ℕ) × IsLastFraction s f x)
decided_fraction s f = decided_like ((f ≡ []) ⊎ ((s ≢ []) × (((ds : List ℕ) × IsMarked 0x2E f ds) ⊎ ((ds : List ℕ) × IsMarked 0x2C f ds)))) ((x : Option ℕ) × IsLastFraction s f x) there back
    (decided_or _ _ (decided_empty f) (decided_and _ _ (decided_not _ (decided_empty s)) (decided_or _ _ (decided_marked 0x2E f) (decided_marked 0x2C f))))
  where
    there : (f ≡ []) ⊎ ((s ≢ []) × (((ds : List ℕ) × IsMarked 0x2E f ds) ⊎ ((ds : List ℕ) × IsMarked 0x2C f ds))) → (x : Option ℕ) × IsLastFraction s f x
    there (inl e) = (None, inl (e, refl))
    there (inr (ne, inl (ds, (e, all, some, few)))) =
        (Some (decimal_from 0 ds * 10 ^ (9 - length ds)), inr (ne, decimal_from 0 ds * 10 ^ (9 - length ds), (0x2E, ds, inl refl, e, all, some, few, refl), refl))
    there (inr (ne, inr (ds, (e, all, some, few)))) =
        (Some (decimal_from 0 ds * 10 ^ (9 - length ds)), inr (ne, decimal_from 0 ds * 10 ^ (9 - length ds), (0x2C, ds, inr refl, e, all, some, few, refl), refl))

    back : ((x : Option ℕ) × IsLastFraction s f x) → (f ≡ []) ⊎ ((s ≢ []) × (((ds : List ℕ) × IsMarked 0x2E f ds) ⊎ ((ds : List ℕ) × IsMarked 0x2C f ds)))
    back (x, inl h) = inl h.0
    back (x, inr (ne, n, (mark, ds, inl m, e, all, some, few, value), q)) = inr (ne, inl (ds, (e ∙ ap (λ b. b ∷ ds) m, all, some, few)))
    back (x, inr (ne, n, (mark, ds, inr m, e, all, some, few, value), q)) = inr (ne, inr (ds, (e ∙ ap (λ b. b ∷ ds) m, all, some, few)))

-- a year below k in the digits g, a month, a day, an hour and a minute
abbrev IsFront : (ℕ → List ℕ) → ℕ → List ℕ → Type 0
IsFront g k a =
    (y : ℕ) × (y < k) × ((mo : ℕ) × (mo < 13) × ((d : ℕ) × (d < 32) × ((h : ℕ) × (h < 24) ×
    ((mi : ℕ) × (mi < 60) × ((1 ≤ mo) × (1 ≤ d) × (a ≡ g y ++ (two_digits mo ++ two_digits d ++ two_digits h ++ two_digits mi)))))))

decided_front : (g : ℕ → List ℕ) (k : ℕ) (a : List ℕ) → Decided (IsFront g k a)
decided_front g k a =
    decided_some k _ (λ y. decided_some 13 _ (λ mo. decided_some 32 _ (λ d. decided_some 24 _ (λ h. decided_some 60 _ (λ mi.
    decided_like ((1 ≤ mo) × ((1 ≤ d) × (a ≡ g y ++ (two_digits mo ++ two_digits d ++ two_digits h ++ two_digits mi)))) _ (λ q. (q.0, q.1.0, q.1.1)) (λ q. (q.0, (q.1, q.2)))
    (decided_and _ _ (decided_at_most 1 mo) (decided_and _ _ (decided_at_most 1 d) (decided_list a (g y ++ (two_digits mo ++ two_digits d ++ two_digits h ++ two_digits mi))))))))))

-- the parts of a UTCTime
abbrev IsUtcCut : List ℕ → Type 0
IsUtcCut w = (a r : List ℕ) × (w ≡ a ++ r) × (IsFront two_digits 100 a × ((s z : List ℕ) × (r ≡ s ++ z) × (((n : ℕ) × AreSeconds s n) × ((x : ASN1TimeZone) × IsZone z x))))

decided_utc_cut : (w : List ℕ) → Decided (IsUtcCut w)
decided_utc_cut w = decided_cut w _ (λ a r. decided_and _ _ (decided_front two_digits 100 a) (decided_cut r _ (λ s z. decided_and _ _ (decided_seconds s) (decided_zone z))))

decided_utc : (w : List ℕ) → Decided ((t : ASN1DateTime) × IsUtcTime w t)
decided_utc w = decided_like (IsUtcCut w) ((t : ASN1DateTime) × IsUtcTime w t) there back (decided_utc_cut w)
  where
    there : IsUtcCut w → (t : ASN1DateTime) × IsUtcTime w t
    there (a, r, e, ((y, ly, (mo, lmo, (d, ld, (h, lh, (mi, lmi, (smo, sd, ea)))))), (s, z, er, ((n, hs), (x, hz))))) = (
      record { year = y; month = mo; day = d; hour = h; minute = mi; second = n; nanosecond = None; tz = x },
      (
        ly,
        record { month = (smo, omega arith); day = (sd, omega arith); hour = lh; minute = lmi },
        refl,
        s,
        z,
        hs,
        hz,
        e ∙ ap (λ l. l ++ r) ea ∙ ap (λ l. (two_digits y ++ (two_digits mo ++ two_digits d ++ two_digits h ++ two_digits mi)) ++ l) er,
      ),
    )

    back : ((t : ASN1DateTime) × IsUtcTime w t) → IsUtcCut w
    back (t, (ly, m, none, s, z, hs, hz, e)) = (
      two_digits t.year ++ month_to_minute t,
      s ++ z,
      e,
      (
        (t.year, ly, (t.month, omega (arith, m.month), (t.day, omega (arith, m.day), (t.hour, m.hour, (t.minute, m.minute, (m.month.0, m.day.0, refl)))))),
        (s, z, refl, ((t.second, hs), (t.tz, hz))),
      ),
    )

-- the parts of a GeneralizedTime
abbrev IsGeneralizedCut : List ℕ → Type 0
IsGeneralizedCut w = (a r : List ℕ) × (w ≡ a ++ r) × (IsFront four_digits 10000 a × ((s q : List ℕ) × (r ≡ s ++ q) × (((n : ℕ) × AreSeconds s n)
    × ((f z : List ℕ) × (q ≡ f ++ z) × (((x : Option ℕ) × IsLastFraction s f x) × ((x : ASN1TimeZone) × IsLastZone z x))))))

decided_generalized_cut : (w : List ℕ) → Decided (IsGeneralizedCut w)
decided_generalized_cut w = decided_cut w _ (λ a r. decided_and _ _ (decided_front four_digits 10000 a) (decided_cut r _ (λ s q. decided_and _ _ (decided_seconds s)
    (decided_cut q _ (λ f z. decided_and _ _ (decided_fraction s f) (decided_last_zone z))))))

decided_generalized : (w : List ℕ) → Decided ((t : ASN1DateTime) × IsGeneralizedTime w t)
decided_generalized w = decided_like (IsGeneralizedCut w) ((t : ASN1DateTime) × IsGeneralizedTime w t) there back (decided_generalized_cut w)
  where
    there : IsGeneralizedCut w → (t : ASN1DateTime) × IsGeneralizedTime w t
    there (a, r, e, ((y, ly, (mo, lmo, (d, ld, (h, lh, (mi, lmi, (smo, sd, ea)))))), (s, q, er, ((n, hs), (f, z, eq, ((o, hf), (x, hz))))))) = (
      record { year = y; month = mo; day = d; hour = h; minute = mi; second = n; nanosecond = o; tz = x },
      (
        ly,
        record { month = (smo, omega arith); day = (sd, omega arith); hour = lh; minute = lmi },
        s,
        f,
        z,
        hs,
        hf,
        hz,
        e ∙ ap (λ l. l ++ r) ea ∙ ap (λ l. (four_digits y ++ (two_digits mo ++ two_digits d ++ two_digits h ++ two_digits mi)) ++ l) (er ∙ ap (λ l. s ++ l) eq ∙ sym (append_assoc s f z)),
      ),
    )

    back : ((t : ASN1DateTime) × IsGeneralizedTime w t) → IsGeneralizedCut w
    back (t, (ly, m, s, f, z, hs, hf, hz, e)) = (
      four_digits t.year ++ month_to_minute t,
      s ++ (f ++ z),
      e ∙ ap (λ l. (four_digits t.year ++ month_to_minute t) ++ l) (append_assoc s f z),
      (
        (t.year, ly, (t.month, omega (arith, m.month), (t.day, omega (arith, m.day), (t.hour, m.hour, (t.minute, m.minute, (m.month.0, m.day.0, refl)))))),
        (s, f ++ z, refl, ((t.second, hs), (f, z, refl, ((t.nanosecond, hf), (t.tz, hz))))),
      ),
    )

-- whether octets are a text of a time
pub decided_time : (k : ℕ) (w : List ℕ) → Decided ((t : ASN1DateTime) × IsTimeText k w t)
decided_time k w = decided_like (((k ≡ 23) × ((t : ASN1DateTime) × IsUtcTime w t)) ⊎ ((k ≡ 24) × ((t : ASN1DateTime) × IsGeneralizedTime w t))) ((t : ASN1DateTime) × IsTimeText k w t) there back
    (decided_or _ _ (decided_and _ _ (decided_equal k 23) (decided_utc w)) (decided_and _ _ (decided_equal k 24) (decided_generalized w)))
  where
    there : ((k ≡ 23) × ((t : ASN1DateTime) × IsUtcTime w t)) ⊎ ((k ≡ 24) × ((t : ASN1DateTime) × IsGeneralizedTime w t)) → (t : ASN1DateTime) × IsTimeText k w t
    there (inl (e, (t, h))) = (t, inl (e, h))
    there (inr (e, (t, h))) = (t, inr (e, h))

    back : ((t : ASN1DateTime) × IsTimeText k w t) → ((k ≡ 23) × ((t : ASN1DateTime) × IsUtcTime w t)) ⊎ ((k ≡ 24) × ((t : ASN1DateTime) × IsGeneralizedTime w t))
    back (t, inl (e, h)) = inl (e, (t, h))
    back (t, inr (e, h)) = inr (e, (t, h))

pub decided_ends : (w e : List ℕ) → Decided ((v : List ℕ) × (w ≡ v ++ e))
decided_ends w e =
    decided_like ((u v : List ℕ) × (w ≡ u ++ v) × (v ≡ e)) ((v : List ℕ) × (w ≡ v ++ e)) (λ (u, v, k, q). (u, k ∙ ap (λ l. u ++ l) q)) (λ (u, k). (u, e, k, refl))
    (decided_cut w _ (λ u v. decided_list v e))

decided_holds : (w e : List ℕ) → Decided ((v f : List ℕ) × (w ≡ v ++ (e ++ f)))
decided_holds w e = decided_like ((u r : List ℕ) × (w ≡ u ++ r) × ((a f : List ℕ) × (r ≡ a ++ f) × (a ≡ e))) ((v f : List ℕ) × (w ≡ v ++ (e ++ f)))
    (λ (u, r, k, (a, f, q, h)). (u, f, k ∙ ap (λ l. u ++ l) (q ∙ ap (λ l. l ++ f) h))) (λ (u, f, k). (u, e ++ f, k, (e, f, refl, refl)))
    (decided_cut w _ (λ u r. decided_cut r _ (λ a f. decided_list a e)))

decided_loose : (w : List ℕ) → Decided (HasLooseFraction w)
decided_loose w =
    decided_like (((v f : List ℕ) × (w ≡ v ++ (codes "," ++ f))) ⊎ ((v r : List ℕ) × (w ≡ v ++ r) × ((a q : List ℕ) × (r ≡ a ++ q) × ((a ≡ codes ".") × ((f : List ℕ) × (q ≡ f ++ codes "0Z"))))))
    (HasLooseFraction w) there back
    (decided_or _ _ (decided_holds w (codes ",")) (decided_cut w _ (λ v r. decided_cut r _ (λ a q. decided_and _ _ (decided_list a (codes ".")) (decided_ends q (codes "0Z"))))))
  where
    there : ((v f : List ℕ) × (w ≡ v ++ (codes "," ++ f))) ⊎ ((v r : List ℕ) × (w ≡ v ++ r) × ((a q : List ℕ) × (r ≡ a ++ q) × ((a ≡ codes ".") × ((f : List ℕ) × (q ≡ f ++ codes "0Z")))))
        → HasLooseFraction w
    there (inl (v, f, e)) = (v, f, inl e)
    there (inr (v, r, e, (a, q, k, (h, (f, g))))) = (v, f, inr (e ∙ ap (λ l. v ++ l) (k ∙ ap (λ l. l ++ q) h ∙ ap (λ l. codes "." ++ l) g)))

    back : HasLooseFraction w → ((v f : List ℕ) × (w ≡ v ++ (codes "," ++ f))) ⊎ ((v r : List ℕ) × (w ≡ v ++ r)
        × ((a q : List ℕ) × (r ≡ a ++ q) × ((a ≡ codes ".") × ((f : List ℕ) × (q ≡ f ++ codes "0Z")))))
    back (v, f, inl e) = inl (v, f, e)
    back (v, f, inr e) = inr (v, codes "." ++ (f ++ codes "0Z"), e, (codes ".", f ++ codes "0Z", refl, (refl, (f, refl))))

pub two_last : (n : ℕ) → two_digits n ≡ two_digits (n % 100)
two_last n = let a : digit (n / 10) ≡ digit (n % 100 / 10) = omega arith in let b : digit n ≡ digit (n % 100) = omega arith in cc

pub four_last : (n : ℕ) → four_digits n ≡ four_digits (n % 10000)
four_last n =
    let a : digit (n / 100 / 10) ≡ digit (n % 10000 / 100 / 10) = omega arith in let b : digit (n / 100) ≡ digit (n % 10000 / 100) = omega arith in
    let c : digit (n / 10) ≡ digit (n % 10000 / 10) = omega arith in let d : digit n ≡ digit (n % 10000) = omega arith in cc

parts_same : (z : List ℕ) {a b c d e a' b' c' d' e' : List ℕ} → a ≡ a' → b ≡ b' → c ≡ c' → d ≡ d' → e ≡ e' → a ++ (b ++ c ++ d ++ e ++ z) ≡ a' ++ (b' ++ c' ++ d' ++ e' ++ z)
parts_same z ha hb hc hd he = cc

abbrev numbers_text : (ℕ → List ℕ) → ℕ → ℕ → ℕ → ℕ → ℕ → List ℕ
numbers_text g y mo d h mi = g y ++ (two_digits mo ++ two_digits d ++ two_digits h ++ two_digits mi ++ codes "Z")

abbrev IsNumbersText : (ℕ → List ℕ) → ℕ → List ℕ → Type 0
IsNumbersText g k w = (y : ℕ) × (y < k) × ((mo : ℕ) × (mo < 100) × ((d : ℕ) × (d < 100) × ((h : ℕ) × (h < 100) × ((mi : ℕ) × (mi < 100) × (w ≡ numbers_text g y mo d h mi)))))

-- a year in the digits g, which are those of its rest by k
decided_no_seconds_by : (g : ℕ → List ℕ) (k : ℕ) (w : List ℕ) → 0 < k → ((n : ℕ) → g n ≡ g (n % k)) → Decided ((t : ASN1DateTime) × (w ≡ g t.year ++ (month_to_minute t ++ codes "Z")))
decided_no_seconds_by g k w some last = decided_like (IsNumbersText g k w) ((t : ASN1DateTime) × (w ≡ g t.year ++ (month_to_minute t ++ codes "Z"))) there back
    (decided_some k _ (λ y. decided_some 100 _ (λ mo. decided_some 100 _ (λ d. decided_some 100 _ (λ h. decided_some 100 _ (λ mi. decided_list w (numbers_text g y mo d h mi)))))))
  where
    there : IsNumbersText g k w → (t : ASN1DateTime) × (w ≡ g t.year ++ (month_to_minute t ++ codes "Z"))
    there (y, ly, (mo, lmo, (d, ld, (h, lh, (mi, lmi, e))))) = (record { year = y; month = mo; day = d; hour = h; minute = mi; second = 0; nanosecond = None; tz = Z }, e)

    back : ((t : ASN1DateTime) × (w ≡ g t.year ++ (month_to_minute t ++ codes "Z"))) → IsNumbersText g k w
    back (t, e) = (
      t.year % k,
      omega arith,
      (
        t.month % 100,
        omega arith,
        (
          t.day % 100,
          omega arith,
          (
            t.hour % 100,
            omega arith,
            (
              t.minute % 100,
              omega arith,
              e ∙ parts_same (codes "Z") (last t.year) (two_last t.month) (two_last t.day) (two_last t.hour) (two_last t.minute),
            ),
          ),
        ),
      ),
    )

decided_no_seconds : (k : ℕ) (w : List ℕ) → Decided (HasNoSeconds k w)
decided_no_seconds k w = at (k == 23)
  where
    at : (b : Bool) → Decided ((t : ASN1DateTime) × (w ≡ (if b then two_digits t.year else four_digits t.year) ++ (month_to_minute t ++ codes "Z")))
    at true = decided_no_seconds_by two_digits 100 w (omega arith) two_last
    at false = decided_no_seconds_by four_digits 10000 w (omega arith) four_last

-- the tests of DER on a time
pub time_tests_decided : (k : ℕ) (w : List ℕ) → AllDecided (time_tests k w)
time_tests_decided k w = (
  decided_like (¬ ((v : List ℕ) × (w ≡ v ++ codes "Z"))) ((v : List ℕ) → w ≢ v ++ codes "Z") (λ n v e. n (v, e)) (λ n (v, e). n v e) (decided_not _ (decided_ends w (codes "Z"))),
  (
    decided_like (¬ ((t : ASN1DateTime) × IsTimeText k w t)) (IsNotTime k w) (λ n t h. n (t, h)) (λ n (t, h). n t h) (decided_not _ (decided_time k w)),
    (
      decided_no_seconds k w,
      (
        decided_loose w,
        tt,
      ),
    ),
  ),
)
