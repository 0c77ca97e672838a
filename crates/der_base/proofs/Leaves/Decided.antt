-- Facts that can be told from their contraries.
use Rattle.std.proofs.Common.{◌≡◌, ℕ, zero, suc, ◌<◌, ◌≤◌, ◌⊎◌, Bool, true, false, ◌==◌, List, [], ◌∷◌, ◌++◌, refl, sym, ap, subst, arith, inl, inr, ℤ, All, IsTrue, IsUtf8}
use Rattle.std.specs.Prelude.{◌<ℤ◌, nat_lt}
use Rattle.std.specs.Str.{is_utf8}
use Rattle.std.proofs.lemmas.Bool.Decides.{nat_tests, Decides-eqb}
use Rattle.std.proofs.lemmas.Int.{ints, by_lt_z}
use Rattle.std.proofs.lemmas.List.Elements.{All-nil, All-cons, All-head, All-tail}
use Rattle.std.proofs.lemmas.Str.{IsUtf8-from_is_utf8, is_utf8-from_IsUtf8}

pub never : false ≡ true → ⊥
never e = cc

abbrev pub Decided : Type 0 → Type 0
Decided P = P ⊎ ¬ P

pub sure : (P : Type 0) → Decided P → ¬ (¬ P) → P
sure P (inl h) n = h
sure P (inr h) n = absurd (n h)

pub decided_like : (P Q : Type 0) → (P → Q) → (Q → P) → Decided P → Decided Q
decided_like P Q f g (inl h) = inl (f h)
decided_like P Q f g (inr h) = inr (λ k. h (g k))

pub decided_not : (P : Type 0) → Decided P → Decided (¬ P)
decided_not P (inl h) = inr (λ k. k h)
decided_not P (inr h) = inl h

pub decided_and : (P Q : Type 0) → Decided P → Decided Q → Decided (P × Q)
decided_and P Q (inl a) (inl b) = inl (a, b)
decided_and P Q (inr a) b = inr (λ h. a h.0)
decided_and P Q a (inr b) = inr (λ h. b h.1)

pub decided_or : (P Q : Type 0) → Decided P → Decided Q → Decided (P ⊎ Q)
decided_or P Q (inl a) b = inl (inl a)
decided_or P Q (inr a) (inl b) = inl (inr b)
decided_or P Q (inr a) (inr b) = inr (λ h. elim h [ inl k ↦ a k | inr k ↦ b k ])

pub decided_when : (P Q : Type 0) → Decided P → Decided Q → Decided (P → Q)
decided_when P Q a (inl b) = inl (λ h. b)
decided_when P Q (inl a) (inr b) = inr (λ f. b (f a))
decided_when P Q (inr a) (inr b) = inl (λ h. absurd (a h))

pub decided_test : (P : Type 0) (b : Bool) → (b ≡ true → P) → (P → b ≡ true) → Decided P
decided_test P true f g = inl (f refl)
decided_test P false f g = inr (λ h. never (g h))

pub decided_true : (b : Bool) → Decided (b ≡ true)
decided_true true = inl refl
decided_true false = inr never

pub decided_false : (b : Bool) → Decided (b ≡ false)
decided_false true = inr (λ e. never (sym e))
decided_false false = inl refl

pub decided_equal : (a b : ℕ) → Decided (a ≡ b)
decided_equal a b = decided_test (a ≡ b) (a == b) (Decides-eqb a b).0 (Decides-eqb a b).1

pub decided_below : (a b : ℕ) → Decided (a < b)
decided_below a b = decided_test (a < b) (nat_lt a b) (λ h. grind (arith, nat_tests)) (λ h. grind (arith, nat_tests))

pub decided_at_most : (a b : ℕ) → Decided (a ≤ b)
decided_at_most a b = decided_like (a < suc b) (a ≤ b) (λ h. omega arith) (λ h. omega arith) (decided_below a (suc b))

pub decided_less : (a b : ℤ) → Decided (a <ℤ b)
decided_less a b = by_lt_z a b (λ h. inl h) (λ h. inr (λ k. omega (arith, ints)))

pub decided_empty : (w : List ℕ) → Decided (w ≡ [])
decided_empty [] = inl refl
decided_empty (b ∷ w) = inr (λ e. cc)

pub decided_list : (v w : List ℕ) → Decided (v ≡ w)
decided_list [] [] = inl refl
decided_list [] (b ∷ w) = inr (λ e. cc)
decided_list (a ∷ v) [] = inr (λ e. cc)
decided_list (a ∷ v) (b ∷ w) =
    decided_like ((a ≡ b) × (v ≡ w)) (a ∷ v ≡ b ∷ w) (λ h. (let e : a ≡ b = h.0 in let f : v ≡ w = h.1 in cc)) (λ h. (cc, cc)) (decided_and _ _ (decided_equal a b) (decided_list v w))

pub decided_each : (P : ℕ → Type 0) (w : List ℕ) → ((b : ℕ) → Decided (P b)) → Decided (All P w)
decided_each P [] d = inl (All-nil P)
decided_each P (b ∷ w) d = decided_like (P b × All P w) (All P (b ∷ w)) (λ h. All-cons P b w h.0 h.1) (λ h. (All-head P b w h, All-tail P b w h)) (decided_and _ _ (d b) (decided_each P w d))

pub decided_all : (f : ℕ → Bool) (w : List ℕ) → Decided (All (λ b. IsTrue (f b)) w)
decided_all f w = decided_each (λ b. IsTrue (f b)) w (λ b. decided_true (f b))

pub decided_utf8 : (w : List ℕ) → Decided (IsUtf8 w)
decided_utf8 w = decided_test (IsUtf8 w) (is_utf8 w) (IsUtf8-from_is_utf8 w) (is_utf8-from_IsUtf8 w)

-- some number below k
pub decided_some : (k : ℕ) (P : ℕ → Type 0) → ((n : ℕ) → Decided (P n)) → Decided ((n : ℕ) × (n < k) × P n)
decided_some zero P d = inr (λ h. let l : h.0 < 0 = h.1 in absurd (omega arith))
decided_some (suc k) P d = elim (d k) [
  | inl h ↦ inl (k, omega arith, h)
  | inr h ↦ decided_like ((n : ℕ) × (n < k) × P n) ((n : ℕ) × (n < suc k) × P n) (λ (n, l, p). (n, omega arith, p))
      (λ (n, l, p). elim (decided_equal n k) [ inl e ↦ absurd (h (subst P e p)) | inr ne ↦ (n, omega (arith, ne), p) ]) (decided_some k P d)
]

-- some cut of a list
pub decided_cut : (w : List ℕ) (P : List ℕ → List ℕ → Type 0) → ((u v : List ℕ) → Decided (P u v)) → Decided ((u v : List ℕ) × (w ≡ u ++ v) × P u v)
decided_cut [] P d = decided_like (P [] []) ((u v : List ℕ) × ([] ≡ u ++ v) × P u v) (λ h. ([], [], refl, h)) only (d [] [])
  where
    only : ((u v : List ℕ) × ([] ≡ u ++ v) × P u v) → P [] []
    only ([], [], e, h) = h
    only ([], (b ∷ v), e, h) = absurd (cc)
    only ((b ∷ u), v, e, h) = absurd (cc)
decided_cut (b ∷ w) P d =
    decided_like (P [] (b ∷ w) ⊎ ((u v : List ℕ) × (w ≡ u ++ v) × P (b ∷ u) v)) ((u v : List ℕ) × (b ∷ w ≡ u ++ v) × P u v) there back
    (decided_or _ _ (d [] (b ∷ w)) (decided_cut w (λ u v. P (b ∷ u) v) (λ u v. d (b ∷ u) v)))
  where
    there : (P [] (b ∷ w) ⊎ ((u v : List ℕ) × (w ≡ u ++ v) × P (b ∷ u) v)) → (u v : List ℕ) × (b ∷ w ≡ u ++ v) × P u v
    there (inl h) = ([], b ∷ w, refl, h)
    there (inr (u, v, e, h)) = (b ∷ u, v, ap (λ l. b ∷ l) e, h)

    back : ((u v : List ℕ) × (b ∷ w ≡ u ++ v) × P u v) → P [] (b ∷ w) ⊎ ((u v : List ℕ) × (w ≡ u ++ v) × P (b ∷ u) v)
    back ([], v, e, h) = inl (subst (P []) (sym e) h)
    back ((a ∷ u), v, e, h) = inr (u, v, cc, subst (λ c. P (c ∷ u) v) (let k : a ≡ b = cc in k) h)
