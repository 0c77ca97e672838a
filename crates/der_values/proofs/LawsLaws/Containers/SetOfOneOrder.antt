-- The values of a SET OF have one order.
use Rattle.std.proofs.Common.{◌≡◌, ℕ, zero, suc, ◌<◌, ◌⊎◌, List, [], ◌∷◌, refl, sym, ap, ◌∙◌, arith, inl, inr}
use Rattle.std.proofs.lemmas.List.Elements.{recursion_from_All}
use Rattle.std.proofs.lemmas.List.Sorted.{All-permutation, sum_by-IsPermutation}
use Rattle.std.proofs.lemmas.List.Sums.{sum_by-cons}
use Rattle.std.specs.List.{sum_by, AllByRecursion}
use Rattle.der_base.specs.Laws.{IsDerEncoding, SetOfHasOneOrder}
use Rattle.der_base.specs.SetOfOrder.{IsAscending}
use Rattle.der_values.proofs.LawsLaws.Containers.SetOfOrders.{Greater, greater_descends, descends_greater, encodings_do_not_tie}

which : (x y : ℕ) → (x < y) ⊎ (x ≡ y) ⊎ (y < x)
which zero zero = inr (inl refl)
which zero (suc y) = inl (omega arith)
which (suc x) zero = inr (inr (omega arith))
which (suc x) (suc y) = elim (which x y) [ inl l ↦ inl (omega (arith, l)) | inr (inl e) ↦ inr (inl (ap suc e)) | inr (inr l) ↦ inr (inr (omega (arith, l))) ]

-- between a greater list and a lesser one, a third is less than the one or greater than the other
between : (a b c : List ℕ) → Greater a c → Greater a b ⊎ Greater b c
between [] b c h = absurd h
between (x ∷ a) [] [] h = inl h
between (x ∷ a) (y ∷ b) [] (inl l) = elim (which x y) [ inl m ↦ inr (inl (omega (arith, l, m))) | inr (inl e) ↦ inr (inl (omega (arith, l, e))) | inr (inr m) ↦ inl (inl m) ]
between (x ∷ a) (y ∷ b) [] (inr h) = elim (which x y) [
  | inl m ↦ inr (inl (omega (arith, m)))
  | inr (inl e) ↦ elim (between a b [] h) [ inl g ↦ inl (inr (e, g)) | inr g ↦ inr (inr g) ]
  | inr (inr m) ↦ inl (inl m)
]
between (x ∷ a) [] (z ∷ c) (inl l) = inl (inl (omega (arith, l)))
between (x ∷ a) [] (z ∷ c) (inr (e, h)) = elim (between a [] c h) [ inl g ↦ inl (inr g) | inr g ↦ absurd g ]
between (x ∷ a) (y ∷ b) (z ∷ c) (inl l) = elim (which x y) [ inl m ↦ inr (inl (omega (arith, l, m))) | inr (inl e) ↦ inr (inl (omega (arith, l, e))) | inr (inr m) ↦ inl (inl m) ]
between (x ∷ a) (y ∷ b) (z ∷ c) (inr (e, h)) = elim (which x y) [
  | inl m ↦ inr (inl (omega (arith, e, m)))
  | inr (inl q) ↦ elim (between a b c h) [ inl g ↦ inl (inr (q, g)) | inr g ↦ inr (inr (sym q ∙ e, g)) ]
  | inr (inr m) ↦ inl (inl m)
]

decide : (a b : List ℕ) → Greater a b ⊎ (¬ Greater a b)
decide [] b = inr (λ h. h)
decide (x ∷ a) [] = elim (which 0 x) [
  | inl l ↦ inl (inl l)
  | inr (inl e) ↦ elim (decide a []) [ inl g ↦ inl (inr g) | inr n ↦ inr (λ h. elim h [ inl l ↦ omega (arith, l, e) | inr g ↦ n g ]) ]
  | inr (inr l) ↦ absurd (omega (arith, l))
]
decide (x ∷ a) (y ∷ b) = elim (which x y) [
  | inl l ↦ inr (λ h. elim h [ inl m ↦ omega (arith, l, m) | inr g ↦ omega (arith, l, g.0) ])
  | inr (inl e) ↦ elim (decide a b) [ inl g ↦ inl (inr (e, g)) | inr n ↦ inr (λ h. elim h [ inl m ↦ omega (arith, e, m) | inr g ↦ n g.1 ]) ]
  | inr (inr m) ↦ inl (inl m)
]

-- 1 where it is not so
not_so : {A : Type 0} → A ⊎ (¬ A) → ℕ
not_so (inl h) = 0
not_so (inr h) = 1

none : {A : Type 0} (d : A ⊎ (¬ A)) → A → not_so d ≡ 0
unfolding not_so
none (inl h) a = refl
none (inr h) a = absurd (h a)

some : {A : Type 0} (d : A ⊎ (¬ A)) → (¬ A) → not_so d ≡ 1
unfolding not_so
some (inl h) n = absurd (n h)
some (inr h) n = refl

itself : (s : List ℕ) → ¬ Greater s s
itself [] h = h
itself (x ∷ s) (inl l) = omega (arith, l)
itself (x ∷ s) (inr (_, g)) = itself s g

chain : (s u : List ℕ) (ss : List (List ℕ)) → ¬ Greater s u → IsAscending (u ∷ ss) → AllByRecursion (λ x. ¬ Greater s x) ss
chain s u [] n h = tt
chain s u (v ∷ ss) n h =
    let k : ¬ Greater s v = λ g. elim (between s u v g) [ inl a ↦ n a | inr b ↦ h.0 (greater_descends u v b) ] in
    (k, chain s v ss k h.1)

-- those of which s is not the greater are greater than t, where s is
lifted : (s t : List ℕ) → Greater s t → (xs : List (List ℕ)) → AllByRecursion (λ x. ¬ Greater s x) xs → sum_by (λ x. not_so (decide x t)) xs ≡ 0
lifted s t g [] h = refl
lifted s t g (x ∷ xs) h =
    let k : Greater x t = elim (between s x t g) [ inl a ↦ absurd (h.0 a) | inr b ↦ b ] in
    omega (arith, sum_by-cons (λ x. not_so (decide x t)) x xs, none (decide x t) k, lifted s t g xs h.1)

-- the first of one order is not greater than that of another
first_not_greater : (s t : List ℕ) (ss ts : List (List ℕ)) → IsAscending (s ∷ ss) → ((f : List ℕ → ℕ) → sum_by f (s ∷ ss) ≡ sum_by f (t ∷ ts)) → ¬ Greater s t
first_not_greater s t ss ts a same g =
    let f = λ (x : List ℕ). not_so (decide x t) in
    omega (arith, lifted s t g (s ∷ ss) (itself s, chain s s ss (itself s) a), same f, sum_by-cons f t ts, some (decide t t) (itself t))

rest_ascends : (s : List ℕ) (ss : List (List ℕ)) → IsAscending (s ∷ ss) → IsAscending ss
rest_ascends s [] h = tt
rest_ascends s (v ∷ ss) h = h.1

one_order : (ss ts : List (List ℕ)) → AllByRecursion IsDerEncoding ss → AllByRecursion IsDerEncoding ts → IsAscending ss → IsAscending ts
    → ((f : List ℕ → ℕ) → sum_by f ss ≡ sum_by f ts) → ss ≡ ts
one_order [] [] e e' a a' same = refl
one_order [] (t ∷ ts) e e' a a' same = absurd (omega (arith, same (λ x. 1), sum_by-cons (λ (x : List ℕ). 1) t ts))
one_order (s ∷ ss) [] e e' a a' same = absurd (omega (arith, same (λ x. 1), sum_by-cons (λ (x : List ℕ). 1) s ss))
one_order (s ∷ ss) (t ∷ ts) e e' a a' same =
    let q : s ≡ t = encodings_do_not_tie s t e.0 e'.0 (λ d. first_not_greater s t ss ts a same (descends_greater s t d))
    (λ d. first_not_greater t s ts ss a' (λ f. sym (same f)) (descends_greater t s d)) in
    let rest : ss ≡ ts = one_order ss ts e.1 e'.1 (rest_ascends s ss a) (rest_ascends t ts a') (λ f. omega (arith, same f, sum_by-cons f s ss, sum_by-cons f t ts, ap f q)) in
    ap (λ x. x ∷ ss) q ∙ ap (λ l. t ∷ l) rest

pub set_of_has_one_order : SetOfHasOneOrder
set_of_has_one_order ss ts e p a a' =
    one_order ss ts (recursion_from_All IsDerEncoding ss e) (recursion_from_All IsDerEncoding ts (All-permutation IsDerEncoding ss ts p e)) a a' (λ f. sym (sum_by-IsPermutation f ss ts p))
