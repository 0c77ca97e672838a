-- What DER wants of a text in universal time, as its octets show it.
use Rattle.std.proofs.Common.{◌≡◌, ◌≢◌, ℕ, ◌+◌, ◌<◌, ◌≤◌, ◌/◌, ◌==◌, Bool, true, false, IsTrue, if◌then◌else◌, Option}
use Rattle.std.proofs.Common.{Result, Ok, Err, MatchResult, IsOkAnd, IsErrAnd, List, [], ◌∷◌, ◌++◌, length}
use Rattle.std.proofs.Common.{length-append, take, drop, codes, refl, sym, ap, subst, ◌∙◌, arith, inl, inr}
use Rattle.std.proofs.Common.{append_assoc, append-nil}
use Rattle.std.proofs.lemmas.List.{take-append-drop, drop_at}
use Rattle.der_base.specs.declared.time.ASN1DateTime.{ASN1DateTime}
use Rattle.der_base.specs.declared.time.ASN1TimeZone.TheVariants.{Z}
use Rattle.der_base.specs.Encoding.{content_octets}
use Rattle.der_base.specs.Leaf.{IsDerLeaf}
use Rattle.der_base.specs.LeafRefusal.{HasNoSeconds, HasLooseFraction, IsFirstRefusal, time_tests}
use Rattle.der_base.specs.Refusal.{Refusal, der_constraint}
use Rattle.der_base.specs.declared.error.DerConstraint.TheVariants.{MissingSeconds, FractionNotMinimal}
use Rattle.der_base.specs.Time.{two_digits, four_digits, IsDigit, AreSeconds, month_to_minute, IsUtcTime, IsGeneralizedTime, IsTimeText}
use Rattle.der_base.specs.Inner.TimeParts.{IsLooseEnd}
use Rattle.der_base.specs.Tree.{time}
use Rattle.der_base.proofs.Times.DerTimes.{IsNoMark, time_passes, two_are, whole_is_strict, marks_same, digit_no_mark}
use Rattle.der_base.proofs.AllByRecursion.{Each, each_append, each_at, each_map, each_from_all}
use Rattle.der_base.proofs.Octets.Identifiers.{head_same}
use Rattle.der_base.proofs.Leaves.Refusals.{NoneHolds, none_refuses, first_refusal_once}
use Rattle.der_base.proofs.Times.OneReading.{times_same}
use Rattle.der_base.proofs.Times.TimesDecided.{IsLastFraction}
use Rattle.der_base.proofs.Times.TimesWritten.{zone_is_z, no_zone, time_is_written}

-- the octets to the end of the seconds
abbrev pub seconds_end : ℕ → ℕ
seconds_end k = if k == 23 then 12 else 14

-- the parts of a text in universal time
record IsUniversal (k : ℕ) (w : List ℕ) (t : ASN1DateTime) : Type 0 where
  front : List ℕ
  size : length front + 2 ≡ seconds_end k
  digits : Each IsDigit front
  seconds : List ℕ
  fraction : List ℕ
  are : AreSeconds seconds t.second
  last : IsLastFraction seconds fraction t.nanosecond
  whole : w ≡ front ++ (seconds ++ (fraction ++ codes "Z"))
  no_seconds : seconds ≡ [] → fraction ≡ [] → HasNoSeconds k w

minutes_are : (t : ASN1DateTime) → Each IsDigit (month_to_minute t)
minutes_are t =
    each_append IsDigit (two_digits t.month ++ two_digits t.day ++ two_digits t.hour) (two_digits t.minute)
    (each_append IsDigit (two_digits t.month ++ two_digits t.day) (two_digits t.hour) (each_append IsDigit (two_digits t.month) (two_digits t.day) (two_are t.month) (two_are t.day)) (two_are t.hour))
    (two_are t.minute)

utc_universal : (w v : List ℕ) (t : ASN1DateTime) → IsUtcTime w t → w ≡ v ++ codes "Z" → IsUniversal 23 w t
utc_universal w v t (year, moment, none, s, zone, hs, hz, e) ends =
    let z : (t.tz ≡ Z) × (zone ≡ codes "Z") = zone_is_z (two_digits t.year ++ month_to_minute t ++ s) v zone t.tz hz (sym e ∙ ends) in
    let whole : w ≡ two_digits t.year ++ (month_to_minute t ++ (s ++ codes "Z")) = e ∙ ap (λ l. two_digits t.year ++ month_to_minute t ++ s ++ l) z.1 in
    record {
      front = two_digits t.year ++ month_to_minute t;
      size = refl;
      digits = each_append IsDigit (two_digits t.year) (month_to_minute t) (two_are t.year) (minutes_are t);
      seconds = s;
      fraction = [];
      are = hs;
      last = inl (refl, none);
      whole = whole;
      no_seconds = λ es ef. (t, whole ∙ ap (λ l. two_digits t.year ++ (month_to_minute t ++ (l ++ codes "Z"))) es);
    }

generalized_universal : (w v : List ℕ) (t : ASN1DateTime) → IsGeneralizedTime w t → w ≡ v ++ codes "Z" → IsUniversal 24 w t
generalized_universal w v t (year, moment, s, f, z, hs, hf, hz, e) ends =
    let zone : (t.tz ≡ Z) × (z ≡ codes "Z") = elim hz [
      | inl h ↦ absurd (no_zone (four_digits t.year ++ (two_digits t.month ++ two_digits t.day ++ two_digits t.hour)) s f v t.minute t.second t.nanosecond hs hf
          (sym (append-nil (four_digits t.year ++ (month_to_minute t ++ (s ++ f)))) ∙ ap (λ l. four_digits t.year ++ month_to_minute t ++ s ++ f ++ l) (sym h.0) ∙ sym e ∙ ends))
      | inr h ↦ zone_is_z (four_digits t.year ++ month_to_minute t ++ s ++ f) v z t.tz h (sym e ∙ ends)
    ] in
    let whole : w ≡ four_digits t.year ++ (month_to_minute t ++ (s ++ (f ++ codes "Z"))) = e ∙ ap (λ l. four_digits t.year ++ (month_to_minute t ++ l)) (append_assoc s f z)
    ∙ ap (λ l. four_digits t.year ++ (month_to_minute t ++ (s ++ (f ++ l)))) zone.1 in
    record {
      front = four_digits t.year ++ month_to_minute t;
      size = refl;
      digits = each_append IsDigit (four_digits t.year) (month_to_minute t) (each_append IsDigit (two_digits (t.year / 100)) (two_digits t.year) (two_are (t.year / 100)) (two_are t.year))
          (minutes_are t);
      seconds = s;
      fraction = f;
      are = hs;
      last = hf;
      whole = whole;
      no_seconds = λ es ef. (t, whole ∙ ap (λ l. four_digits t.year ++ (month_to_minute t ++ (l ++ (f ++ codes "Z")))) es ∙ ap (λ l. four_digits t.year ++ (month_to_minute t ++ (l ++ codes "Z"))) ef);
    }

universal : (k : ℕ) (w v : List ℕ) (t : ASN1DateTime) → IsTimeText k w t → w ≡ v ++ codes "Z" → IsUniversal k w t
universal k w v t (inl h) ends = subst (λ k. IsUniversal k w t) (sym h.0) (utc_universal w v t h.1 ends)
universal k w v t (inr h) ends = subst (λ k. IsUniversal k w t) (sym h.0) (generalized_universal w v t h.1 ends)

-- a text that is too short has no seconds
no_seconds_of_short : (k : ℕ) (w v : List ℕ) (t : ASN1DateTime) → IsTimeText k w t → w ≡ v ++ codes "Z" → length w < seconds_end k → HasNoSeconds k w
no_seconds_of_short k w v t h ends short = go (universal k w v t h ends)
  where
    go : IsUniversal k w t → HasNoSeconds k w
    go u = elim u.are [
      | inl s ↦ elim u.last [ inl f ↦ u.no_seconds s.0 f.0 | inr f ↦ absurd (f.0 s.0) ]
      | inr s ↦ absurd (omega (
        arith,
        u.size,
        ap length (u.whole ∙ ap (λ l. u.front ++ (l ++ (u.fraction ++ codes "Z"))) s.1),
        length-append u.front (two_digits t.second ++ (u.fraction ++ codes "Z")),
      ))
    ]

-- a text without seconds is too short
short_of_no_seconds : (k : ℕ) (w : List ℕ) → HasNoSeconds k w → length w < seconds_end k
short_of_no_seconds k w h = at (k == 23) h
  where
    at : (b : Bool) → ((t : ASN1DateTime) × (w ≡ (if b then two_digits t.year else four_digits t.year) ++ (month_to_minute t ++ codes "Z"))) → length w < (if b then 12 else 14)
    at true q = omega (arith, ap length q.1)
    at false q = omega (arith, ap length q.1)

-- a loose end makes the fraction loose
loose_of_end : (w : List ℕ) (n : ℕ) → IsLooseEnd (drop n w) → HasLooseFraction w
loose_of_end w n (inl h) = (take n w, h.0, inl (sym (take-append-drop n w) ∙ ap (λ l. take n w ++ l) h.1))
loose_of_end w n (inr h) = (take n w, h.0, inr (sym (take-append-drop n w) ∙ ap (λ l. take n w ++ l) h.1))

no_comma : (v : List ℕ) → Each IsDigit v → Each (λ b. b ≢ 0x2C) v
no_comma v h = each_map IsDigit (λ b. b ≢ 0x2C) v (λ b d. (digit_no_mark b d).0) h

no_mark : (v : List ℕ) → Each IsDigit v → Each IsNoMark (v ++ codes "Z")
no_mark v h = each_append IsNoMark v (codes "Z") (each_map IsDigit IsNoMark v digit_no_mark h) (((λ e. omega arith), (λ e. omega arith)), tt)

-- behind digits, a loose fraction stands at the end
loose_behind : (v s f : List ℕ) (x : Option ℕ) → Each IsDigit v → IsLastFraction s f x → HasLooseFraction (v ++ (f ++ codes "Z")) → IsLooseEnd (f ++ codes "Z")
loose_behind v s f x h (inl g) loose = absurd (whole_is_strict v h (subst (λ f. HasLooseFraction (v ++ (f ++ codes "Z"))) g.0 loose))
loose_behind v s f x h (inr (some, n, (mark, ds, inr m, e, all, one, few, value), is)) loose = inl (ds ++ codes "Z", ap (λ l. l ++ codes "Z") (e ∙ ap (λ b. b ∷ ds) m))
loose_behind v s f x h (inr (some, n, (mark, ds, inl m, e, all, one, few, value), is)) loose =
    let k : f ≡ 0x2E ∷ ds = e ∙ ap (λ b. b ∷ ds) m in
    subst (λ f. IsLooseEnd (f ++ codes "Z")) (sym k) (point v ds h (each_from_all IsDigit ds all) (subst (λ f. HasLooseFraction (v ++ (f ++ codes "Z"))) k loose))
  where
    point : (v ds : List ℕ) → Each IsDigit v → Each IsDigit ds → HasLooseFraction (v ++ (0x2E ∷ (ds ++ codes "Z"))) → IsLooseEnd (0x2E ∷ (ds ++ codes "Z"))
    point v ds h g (a, y, inl e) = absurd (each_at (λ b. b ≢ 0x2C) a 0x2C y (v ++ (0x2E ∷ (ds ++ codes "Z")))
        (each_append (λ b. b ≢ 0x2C) v (0x2E ∷ (ds ++ codes "Z")) (no_comma v h) ((λ e. omega arith), each_append (λ b. b ≢ 0x2C) ds (codes "Z") (no_comma ds g) ((λ e. omega arith), tt))) e refl)
    point v ds h g (a, y, inr e) = inr (y, ap (λ l. 0x2E ∷ l) (marks_same v a (ds ++ codes "Z") (y ++ codes "0Z") h (no_mark ds g) e))

-- where there are seconds, a loose fraction makes the end loose
end_of_loose : (k : ℕ) (w v : List ℕ) (t : ASN1DateTime) → IsTimeText k w t → w ≡ v ++ codes "Z" → seconds_end k ≤ length w → HasLooseFraction w → IsLooseEnd (drop (seconds_end k) w)
end_of_loose k w v t h ends long loose = go (universal k w v t h ends)
  where
    go : IsUniversal k w t → IsLooseEnd (drop (seconds_end k) w)
    go u = elim u.are [
      | inl s ↦ elim u.last [ inl f ↦ absurd (omega (arith, long, short_of_no_seconds k w (u.no_seconds s.0 f.0))) | inr f ↦ absurd (f.0 s.0) ]
      | inr s ↦ (let e : w ≡ (u.front ++ two_digits t.second) ++ (u.fraction ++ codes "Z") = u.whole ∙ ap (λ l. u.front ++ (l ++ (u.fraction ++ codes "Z"))) s.1
          ∙ sym (append_assoc u.front (two_digits t.second) (u.fraction ++ codes "Z")) in
          let d : drop (seconds_end k) w ≡ u.fraction ++ codes "Z" = ap (drop (seconds_end k)) e
          ∙ drop_at (u.front ++ two_digits t.second) (u.fraction ++ codes "Z") (seconds_end k) (omega (arith, u.size, length-append u.front (two_digits t.second))) in
          subst IsLooseEnd (sym d) (loose_behind (u.front ++ two_digits t.second) u.seconds u.fraction t.nanosecond
          (each_append IsDigit u.front (two_digits t.second) u.digits (two_are t.second)) u.last (subst HasLooseFraction e loose)))
    ]

-- a text that passes each test is written so
pub strict_time : (k : ℕ) (w v : List ℕ) (t : ASN1DateTime) → IsTimeText k w t → w ≡ v ++ codes "Z" → seconds_end k ≤ length w → ¬ IsLooseEnd (drop (seconds_end k) w)
    → IsDerLeaf k (time k t) × (w ≡ content_octets (time k t))
strict_time k w v t h ends long strict =
    let m = time_is_written k w t h (
      (λ n. n v ends),
      (
        (λ n. n t h),
        (
          (λ q. omega (arith, long, short_of_no_seconds k w q)),
          (
            (λ q. strict (end_of_loose k w v t h ends long q)),
            tt,
          ),
        ),
      ),
    ) in
    (((refl, refl, subst (λ w. IsTimeText k w t) m.written h), (m.zone, m.fraction)), m.written)

-- behind a point, what the last two octets tell
pub loose_end_by : (w behind front : List ℕ) (r : Bool) → ((rest : List ℕ) → w ≢ codes "," ++ rest) → w ≡ codes "." ++ behind → (r ≡ true → w ≡ front ++ codes "0Z")
    → ((f : List ℕ) → w ≡ f ++ codes "0Z" → r ≡ true)
    → (IsTrue r → IsLooseEnd w) × (IsLooseEnd w → IsTrue r)
loose_end_by w behind front r comma point there back = ((λ h. pointed front (there h)), again)
  where
    pointed : (f : List ℕ) → w ≡ f ++ codes "0Z" → IsLooseEnd w
    pointed [] e = absurd (omega (arith, (head_same (sym point ∙ e)).0))
    pointed (b ∷ f) e = inr (f, point ∙ ap (λ l. 0x2E ∷ l) (head_same (sym point ∙ e)).1)

    again : IsLooseEnd w → IsTrue r
    again (inl h) = absurd (comma h.0 h.1)
    again (inr h) = back (0x2E ∷ h.0) h.1

-- the refusals behind that of octets that are no text
pub seconds_refused : (k : ℕ) (w v : List ℕ) (t : ASN1DateTime) → IsTimeText k w t → w ≡ v ++ codes "Z" → length w < seconds_end k → IsFirstRefusal (time_tests k w) (der_constraint MissingSeconds)
seconds_refused k w v t h ends short = inr ((λ n. n v ends), inr ((λ n. n t h), inl (no_seconds_of_short k w v t h ends short, refl)))

pub fraction_refused : (k : ℕ) (w v : List ℕ) (t : ASN1DateTime) → IsTimeText k w t → w ≡ v ++ codes "Z" → seconds_end k ≤ length w → IsLooseEnd (drop (seconds_end k) w)
    → IsFirstRefusal (time_tests k w) (der_constraint FractionNotMinimal)
fraction_refused k w v t h ends long loose =
    inr ((λ n. n v ends), inr ((λ n. n t h), inr ((λ q. omega (arith, long, short_of_no_seconds k w q)), inl (loose_of_end w (seconds_end k) loose, refl))))

abbrev IsStrictTime : ℕ → List ℕ → ASN1DateTime → Type 0
IsStrictTime k w t = IsDerLeaf k (time k t) × (w ≡ content_octets (time k t))

strict_passes : (k : ℕ) (w : List ℕ) (t : ASN1DateTime) → IsStrictTime k w t → NoneHolds (time_tests k w)
strict_passes k w t h = subst (λ w. NoneHolds (time_tests k w)) (sym h.1) (time_passes k t h.0.0.2 h.0.1.0 h.0.1.1)

-- what was found is the one time that the octets are written for
pub strict_only : {E : Type 0} (k : ℕ) (w : List ℕ) (r : Result ASN1DateTime E) (name : E → Refusal) → MatchResult r (λ t. IsStrictTime k w t) (λ e. IsFirstRefusal (time_tests k w) (name e))
    → (t : ASN1DateTime) → IsDerLeaf k (time k t) → w ≡ content_octets (time k t) → IsOkAnd r (λ x. x ≡ t)
strict_only k w (Ok x) name h t g e = times_same k w x t (subst (λ w. IsTimeText k w x) (sym h.1) h.0.0.2) (subst (λ w. IsTimeText k w t) (sym e) g.0.2)
strict_only k w (Err x) name h t g e = absurd (none_refuses (time_tests k w) (name x) (strict_passes k w t (g, e)) h)

-- and the refusal that was found is the first
pub strict_refuses : {E : Type 0} (k : ℕ) (w : List ℕ) (r : Result ASN1DateTime E) (name : E → Refusal) → MatchResult r (λ t. IsStrictTime k w t) (λ e. IsFirstRefusal (time_tests k w) (name e))
    → (e : Refusal) → IsFirstRefusal (time_tests k w) e → IsErrAnd r (λ x. name x ≡ e)
strict_refuses k w (Ok x) name h e g = absurd (none_refuses (time_tests k w) e (strict_passes k w x h) g)
strict_refuses k w (Err x) name h e g = first_refusal_once (time_tests k w) (name x) e h g
