-- What follows the front of a text, and whether a test of it tells the whole text.
use Rattle.std.proofs.Common.{◌≡◌, ◌≢◌, ℕ, zero, suc, ◌-◌, ◌<◌, ◌≤◌, ◌⊎◌, Bool, false, List, [], ◌∷◌, length, take}
use Rattle.std.proofs.Common.{drop, get_or, All, Option, Some, None, refl, sym, ap, subst, ◌∙◌, inl, inr, arith}
use Rattle.std.proofs.Common.{IsTrue}
use Rattle.std.specs.Prelude.{◌↔◌}
use Rattle.std.specs.Borrow.{Bor}
use Rattle.std.proofs.lemmas.Bool.{false≢true}
use Rattle.std.proofs.lemmas.List.{take_all}
use Rattle.std.proofs.lemmas.List.Elements.{All-nil, All-cons, All-head, All-tail}
use Rattle.der_base.specs.Time.{IsDigit}
use Rattle.der_contents.specs.Grammar.{BeginsWithNo, OneThen, MaybeThen, AnyThen, SomeThen, ToNonzeroThen, NumberThen}
use Rattle.der_contents.specs.Grammar.{Strips, Skips, SkipsOne}

-- A front of texts: what follows it is found once, and decides the rest.
pub record IsFront (F : (List ℕ → Type 0) → List ℕ → Type 0) : Type 1 where
  pub opened : (G : List ℕ → Type 0) (w : List ℕ) → F G w → (v : List ℕ) × F (λ u. u ≡ v) w × G v
  pub passed : (G : List ℕ → Type 0) (w rest : List ℕ) → F (λ u. u ≡ rest) w → F G w ↔ G rest

pub one_front : (P : ℕ → Type 0) → IsFront (OneThen P)
one_front P = record {
  opened = λ G w (b, v, e, p, g). (v, (b, v, e, p, refl), g);
  passed = λ G w rest (b, v, e, p, same). (
    (λ (c, u, f, q, g). let k : u ≡ rest = cc in subst G k g),
    (λ g. (b, v, e, p, subst G (sym same) g)),
  );
}

pub number_front : (low high : ℕ) → IsFront (NumberThen low high)
number_front low high = record {
  opened = λ G w (a, b, v, e, da, db, lo, hi, g). (v, (a, b, v, e, da, db, lo, hi, refl), g);
  passed = λ G w rest (a, b, v, e, da, db, lo, hi, same). (
    (λ (c, d, u, f, dc, dd, lc, hd, g). let k : u ≡ rest = cc in subst G k g),
    (λ g. (a, b, v, e, da, db, lo, hi, subst G (sym same) g)),
  );
}

-- one front behind another
pub joined : (F H : (List ℕ → Type 0) → List ℕ → Type 0) → IsFront F → IsFront H → IsFront (λ G. F (H G))
joined F H f h = record {
  opened = λ G w k.
      let a = f.opened (H G) w k in
      let b = h.opened G a.0 a.2 in
      (b.0, (f.passed (H (λ u. u ≡ b.0)) w a.0 a.1).1 b.1, b.2);
  passed = λ G w rest k.
      let a = f.opened (H (λ u. u ≡ rest)) w k in
      let p = f.passed (H G) w a.0 a.1 in
      let q = h.passed G a.0 rest a.2 in
      ((λ x. q.0 (p.0 x)), (λ y. p.1 (q.1 y)));
}

-- what is stripped in two steps
module _ (F H : (List ℕ → Type 0) → List ℕ → Type 0) (f : IsFront F) (w : List ℕ) where
  pub strips_both : (v : List ℕ) (r : Option (Bor (List ℕ))) → F (λ u. u ≡ v) w → Strips H v r
      → Strips (λ G. F (H G)) w r
  strips_both v None k s = λ u x. s u ((f.passed (H (λ y. y ≡ u)) w v k).0 x)
  strips_both v (Some rest) k s = (f.passed (H (λ y. y ≡ rest.now)) w v k).1 s

  pub strips_none : ((v : List ℕ) → ¬ F (λ u. u ≡ v) w) → Strips (λ G. F (H G)) w None
  strips_none n = λ u x. let o = f.opened (H (λ y. y ≡ u)) w x in n o.0 o.1

-- tests of texts

pub never_told : (A : Type 0) → ¬ A → IsTrue false ↔ A
never_told A n = ((λ t. absurd (false≢true t)), (λ a. absurd (n a)))

pub left_told : (A B : Type 0) (r : Bool) → ¬ B → (IsTrue r ↔ A) → IsTrue r ↔ (A ⊎ B)
left_told A B r n h = ((λ t. inl (h.0 t)), (λ x. elim x [ inl a ↦ h.1 a | inr b ↦ absurd (n b) ]))

pub right_told : (A B : Type 0) (r : Bool) → ¬ A → (IsTrue r ↔ B) → IsTrue r ↔ (A ⊎ B)
right_told A B r n h = ((λ t. inr (h.0 t)), (λ x. elim x [ inl a ↦ absurd (n a) | inr b ↦ h.1 b ]))

pub told_behind : (F : (List ℕ → Type 0) → List ℕ → Type 0) → IsFront F
    → (G : List ℕ → Type 0) (w rest : List ℕ) (r : Bool) → F (λ u. u ≡ rest) w → (IsTrue r ↔ G rest)
    → IsTrue r ↔ F G w
told_behind F f G w rest r k h = let p = f.passed G w rest k in ((λ t. p.1 (h.0 t)), (λ x. h.1 (p.0 x)))

pub no_front : (F : (List ℕ → Type 0) → List ℕ → Type 0) → IsFront F → (G : List ℕ → Type 0) (w : List ℕ)
    → ((v : List ℕ) → ¬ F (λ u. u ≡ v) w) → ¬ F G w
no_front F f G w n x = let o = f.opened G w x in n o.0 o.1

-- the first octet

pub one_begins : (P Q : ℕ → Type 0) (G : List ℕ → Type 0) (w : List ℕ) → ((b : ℕ) → P b → ¬ Q b) → OneThen P G w
    → BeginsWithNo Q w
one_begins P Q G w other (b, v, e, p, g) = subst (BeginsWithNo Q) (sym e) (other b p)

pub one_is : (P : ℕ → Type 0) (G : List ℕ → Type 0) (w : List ℕ) → OneThen P G w → BeginsWithNo P w → ⊥
one_is P G w (b, v, e, p, g) stop = let n : ¬ P b = subst (BeginsWithNo P) e stop in n p

pub number_is : (low high : ℕ) (G : List ℕ → Type 0) (w : List ℕ) → NumberThen low high G w → BeginsWithNo IsDigit w → ⊥
number_is low high G w (a, b, v, e, da, db, lo, hi, g) stop =
    let n : ¬ IsDigit a = subst (BeginsWithNo IsDigit) e stop in
    n da

pub none_begins : (P : ℕ → Type 0) (w : List ℕ) → ((v : List ℕ) → ¬ OneThen P (λ u. u ≡ v) w) → BeginsWithNo P w
none_begins P [] n = tt
none_begins P (b ∷ w) n = λ p. n w (b, w, refl, p, refl)

-- any number of octets in front

module _ (P : ℕ → Type 0) (G : List ℕ → Type 0) (stops : (v : List ℕ) → G v → BeginsWithNo P v) where
  none_more : (w : List ℕ) → BeginsWithNo P w → AnyThen P G w → G w
  none_more [] stop h = h
  none_more (b ∷ w) stop (inl g) = g
  none_more (b ∷ w) stop (inr h) = absurd (stop h.0)

  at_once : (w : List ℕ) → G w → AnyThen P G w
  at_once [] g = g
  at_once (b ∷ w) g = inl g

  passed_any : (k : ℕ) (w : List ℕ) → k ≤ length w → All P (take k w) → BeginsWithNo P (drop k w)
      → AnyThen P G w ↔ G (drop k w)
  passed_any zero w l all stop = (none_more w stop, at_once w)
  passed_any (suc k) [] l all stop = absurd (omega arith)
  passed_any (suc k) (b ∷ w) l all stop =
      let r = passed_any k w (omega arith) (All-tail P b (take k w) all) stop in (
        (λ h. elim h [ inl g ↦ absurd (stops (b ∷ w) g (All-head P b (take k w) all)) | inr m ↦ r.0 m.1 ]),
        (λ g. inr (All-head P b (take k w) all, r.1 g)),
      )

  pub any_passed : (w rest : List ℕ) → Skips 0 P w rest → AnyThen P G w ↔ G rest
  any_passed w rest (k, least, l, all, e, stop) =
      let q = passed_any k w l all (subst (BeginsWithNo P) e stop) in
      ((λ h. subst G (sym e) (q.0 h)), (λ g. q.1 (subst G e g)))

  passed_some : (k : ℕ) (w : List ℕ) → 1 ≤ k → k ≤ length w → All P (take k w) → BeginsWithNo P (drop k w)
      → SomeThen P G w ↔ G (drop k w)
  passed_some zero w some l all stop = absurd (omega arith)
  passed_some (suc k) [] some l all stop = absurd (omega arith)
  passed_some (suc k) (b ∷ w) some l all stop =
      let r = passed_any k w (omega arith) (All-tail P b (take k w) all) stop in (
        (λ (c, v, e, p, h). let same : v ≡ w = cc in r.0 (subst (AnyThen P G) same h)),
        (λ g. (b, w, refl, All-head P b (take k w) all, r.1 g)),
      )

  pub some_passed : (w rest : List ℕ) → Skips 1 P w rest → SomeThen P G w ↔ G rest
  some_passed w rest (k, least, l, all, e, stop) =
      let q = passed_some k w least l all (subst (BeginsWithNo P) e stop) in
      ((λ h. subst G (sym e) (q.0 h)), (λ g. q.1 (subst G e g)))

  pub maybe_passed : (w rest : List ℕ) → SkipsOne P w rest → MaybeThen P G w ↔ G rest
  maybe_passed w rest (inl (b, p, e)) = (
    (λ h. elim h [
      | inl (c, v, f, q, g) ↦ (let same : v ≡ rest = cc in subst G same g)
      | inr g ↦ absurd (let n : ¬ P b = subst (BeginsWithNo P) e (stops w g) in n p)
    ]),
    (λ g. inl (b, rest, e, p, g)),
  )
  maybe_passed w rest (inr (stop, e)) = (
    (λ h. elim h [ inl o ↦ absurd (one_is P G w o stop) | inr g ↦ subst G (sym e) g ]),
    (λ g. inr (subst G e g)),
  )

-- digits, of which the last isn't 0
nonzero_is : (G : List ℕ → Type 0) (w : List ℕ) → ToNonzeroThen G w → BeginsWithNo IsDigit w → ⊥
nonzero_is G [] h stop = h
nonzero_is G (b ∷ w) h stop = stop h.0

pub to_nonzero : (G : List ℕ → Type 0) (stops : (v : List ℕ) → G v → BeginsWithNo IsDigit v) (k : ℕ) (w : List ℕ)
    → k ≤ length w → All IsDigit (take k w) → BeginsWithNo IsDigit (drop k w)
    → ToNonzeroThen G w ↔ ((0 < k) × (get_or w (k - 1) 0 ≢ 0x30) × G (drop k w))
to_nonzero G stops zero w l all stop = ((λ h. absurd (nonzero_is G w h stop)), (λ h. absurd (omega (arith, h.0))))
to_nonzero G stops (suc k) [] l all stop = absurd (omega arith)
to_nonzero G stops (suc zero) (b ∷ w) l all stop = (
  (λ h. elim h.1 [ inl g ↦ (omega arith, g.0, g.1) | inr m ↦ absurd (nonzero_is G w m stop) ]),
  (λ h. (All-head IsDigit b [] all, inl (h.1, h.2))),
)
to_nonzero G stops (suc (suc k)) (b ∷ []) l all stop = absurd (omega arith)
to_nonzero G stops (suc (suc k)) (b ∷ c ∷ w) l all stop =
    let rest = All-tail IsDigit b (take (suc k) (c ∷ w)) all in
    let m = to_nonzero G stops (suc k) (c ∷ w) (omega arith) rest stop in
    let one : suc (suc k) - 1 ≡ suc k = omega arith in
    let two : k ≡ suc k - 1 = omega arith in
    let same : get_or (b ∷ c ∷ w) (suc (suc k) - 1) 0 ≡ get_or (c ∷ w) (suc k - 1) 0 =
    ap (λ j. get_or (b ∷ c ∷ w) j 0) one ∙ ap (λ j. get_or (c ∷ w) j 0) two in (
      (λ h. elim h.1 [
        | inl g ↦ absurd (stops (c ∷ w) g.1 (All-head IsDigit c (take k w) rest))
        | inr n ↦ (let q = m.0 n in (omega arith, (λ e. q.1 (sym same ∙ e)), q.2))
      ]),
      (λ h. (All-head IsDigit b (take (suc k) (c ∷ w)) all, inr (m.1 (omega arith, (λ e. h.1 (same ∙ e)), h.2)))),
    )

-- what is left tells the whole
pub told_at : (A B : Type 0) (r : Bool) → A ↔ B → (IsTrue r ↔ B) → IsTrue r ↔ A
told_at A B r p h = ((λ t. p.1 (h.0 t)), (λ a. h.1 (p.0 a)))

pub both_told : (A B : Type 0) (r : Bool) → A → (IsTrue r ↔ B) → IsTrue r ↔ (A × B)
both_told A B r a h = ((λ t. (a, h.0 t)), (λ x. h.1 x.1))

-- some of these octets were skipped, so the first is one
pub skips_one : (P : ℕ → Type 0) (w rest : List ℕ) → Skips 1 P w rest → BeginsWithNo P w → ⊥
skips_one P w rest (zero, some, l, all, e, stop) n = absurd (omega arith)
skips_one P [] rest (suc k, some, l, all, e, stop) n = absurd (omega arith)
skips_one P (b ∷ w) rest (suc k, some, l, all, e, stop) n = n (All-head P b (take k w) all)

-- the octets in front are counted
pub fewer_all : (P : ℕ → Type 0) (n k : ℕ) (w : List ℕ) → n ≤ k → All P (take k w) → All P (take n w)
fewer_all P zero k w l all = All-nil P
fewer_all P (suc n) zero w l all = absurd (omega arith)
fewer_all P (suc n) (suc k) [] l all = All-nil P
fewer_all P (suc n) (suc k) (b ∷ w) l all =
    let rest = fewer_all P n k w (omega arith) (All-tail P b (take k w) all) in
    All-cons P b (take n w) (All-head P b (take k w) all) rest

pub not_more : (P : ℕ → Type 0) (n k : ℕ) (w : List ℕ) → k < n → n ≤ length w → All P (take n w)
    → BeginsWithNo P (drop k w) → ⊥
not_more P zero k w l h all stop = absurd (omega arith)
not_more P (suc n) k [] l h all stop = absurd (omega arith)
not_more P (suc n) zero (b ∷ w) l h all stop = stop (All-head P b (take n w) all)
not_more P (suc n) (suc k) (b ∷ w) l h all stop =
    not_more P n k w (omega arith) (omega arith) (All-tail P b (take n w) all) stop

pub first_and_rest : (w : List ℕ) → 1 ≤ length w → w ≡ get_or w 0 0 ∷ take (length w - 1) (drop 1 w)
first_and_rest [] l = absurd (omega arith)
first_and_rest (b ∷ w) l = ap (λ v. b ∷ v) (sym (take_all (length (b ∷ w) - 1) w (omega arith)))
