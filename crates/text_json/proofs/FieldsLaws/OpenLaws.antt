-- Which element goes on after others.
use Rattle.std.proofs.Common.{◌≡◌, ℕ, ◌<◌, ◌≤◌, ◌⊎◌, true, false, Option, Some, None, List, [], ◌∷◌, ◌++◌}
use Rattle.std.proofs.Common.{ap, arith, inl, inr, refl, subst, sym, ◌∙◌}
use Rattle.std.proofs.lemmas.Bool.Decides.{nat_tests}
use Rattle.der_elements.specs.Visits.{Visited}
use Rattle.text_json.specs.Fields.Secrets.{IsInOne, IsOpen, OpenBy, begins, goes_on, is_inside}

-- two lists with one more element are the same
pub last_same : {A : Type 0} (xs ys : List A) (x y : A) → xs ++ x ∷ [] ≡ ys ++ y ∷ [] → (xs ≡ ys) × (x ≡ y)
last_same [] [] x y e = (refl, cc)
last_same [] (b ∷ []) x y e = absurd (cc)
last_same [] (b ∷ c ∷ cs) x y e = absurd (cc)
last_same (a ∷ []) [] x y e = absurd (cc)
last_same (a ∷ c ∷ cs) [] x y e = absurd (cc)
last_same (a ∷ xs) (b ∷ ys) x y e =
    let first : a ≡ b = cc in
    let rest : xs ++ x ∷ [] ≡ ys ++ y ∷ [] = cc in
    let same = last_same xs ys x y rest in
    (ap (λ z. z ∷ xs) first ∙ ap (λ zs. b ∷ zs) same.0, same.1)

pub no_last : {A : Type 0} (xs : List A) (x : A) → [] ≡ xs ++ x ∷ [] → ⊥
no_last [] x e = absurd (cc)
no_last (a ∷ bs) x e = absurd (cc)

pub open_none : (P : List Visited → Visited → Type 0) → OpenBy P [] None
open_none P d (begins before v e s k) = no_last before v e
open_none P d (goes_on before v e o k) = no_last before v e

-- after one more element
pub open_last : (P : List Visited → Visited → Type 0) (vs : List Visited) (v : Visited) (d : ℕ)
    → IsOpen P (vs ++ v ∷ []) d → (P vs v × (d ≡ v.depth)) ⊎ (IsOpen P vs d × (d < v.depth))
open_last P vs v d (begins before u e s k) =
    let same = last_same vs before v u e in
    inl (subst (λ x. P vs x) (sym same.1) (subst (λ x. P x u) (sym same.0) s), k ∙ ap (λ x. x.depth) (sym same.1))
open_last P vs v d (goes_on before u e o k) =
    let same = last_same vs before v u e in
    inr (subst (λ x. IsOpen P x d) (sym same.0) o, subst (λ (x : Visited). d < x.depth) (sym same.1) k)

-- whether an element is inside
pub inside_one : (P : List Visited → Visited → Type 0) (vs : List Visited) (v : Visited) (o : Option ℕ) → OpenBy P vs o
    → is_inside o v.depth ≡ true → IsInOne P vs v
inside_one P vs v None h is = absurd (cc)
inside_one P vs v (Some o) h is = (o, h.0, grind (arith, nat_tests, is))

pub inside_none : (P : List Visited → Visited → Type 0) (vs : List Visited) (v : Visited) (o : Option ℕ) → OpenBy P vs o
    → is_inside o v.depth ≡ false → IsInOne P vs v → ⊥
inside_none P vs v None h is p = h p.0 p.1
inside_none P vs v (Some o) h is p =
    let least = h.1 p.0 p.1 in
    let below = p.2 in
    absurd (grind (arith, nat_tests, is, least, below))

-- which goes on after one more element: one that is inside, one for which P holds, or another
pub past_inside : (P : List Visited → Visited → Type 0) (vs : List Visited) (v : Visited) (o : Option ℕ) → OpenBy P vs o
    → is_inside o v.depth ≡ true → OpenBy P (vs ++ v ∷ []) o
past_inside P vs v None h is = absurd (cc)
past_inside P vs v (Some o) h is =
    let below : o < v.depth = grind (arith, nat_tests, is) in
    (goes_on vs v refl h.0 below, λ d p. least d below (open_last P vs v d p))
  where
    least : (d : ℕ) → o < v.depth → (P vs v × (d ≡ v.depth)) ⊎ (IsOpen P vs d × (d < v.depth)) → o ≤ d
    least d below (inl q) = let e = q.1 in grind (arith, below, e)
    least d below (inr q) = h.1 d q.0

pub past_one : (P : List Visited → Visited → Type 0) (vs : List Visited) (v : Visited) (o : Option ℕ) → OpenBy P vs o
    → is_inside o v.depth ≡ false → P vs v → OpenBy P (vs ++ v ∷ []) (Some v.depth)
past_one P vs v o h is s = (begins vs v refl s refl, λ d p. least d (open_last P vs v d p))
  where
    least : (d : ℕ) → (P vs v × (d ≡ v.depth)) ⊎ (IsOpen P vs d × (d < v.depth)) → v.depth ≤ d
    least d (inl q) = let e = q.1 in grind (arith, e)
    least d (inr q) = absurd (inside_none P vs v o h is (d, q.0, q.1))

pub past_other : (P : List Visited → Visited → Type 0) (vs : List Visited) (v : Visited) (o : Option ℕ) → OpenBy P vs o
    → is_inside o v.depth ≡ false → (P vs v → ⊥) → OpenBy P (vs ++ v ∷ []) None
past_other P vs v o h is other d p = none (open_last P vs v d p)
  where
    none : (P vs v × (d ≡ v.depth)) ⊎ (IsOpen P vs d × (d < v.depth)) → ⊥
    none (inl q) = other q.0
    none (inr q) = inside_none P vs v o h is (d, q.0, q.1)
