-- Identifiers with one more arc.
use Rattle.std.proofs.Common.{◌≡◌, ◌≤◌, ℕ, Bool, false, IsTrue, List, [], ◌∷◌, ◌++◌, refl, sym, ap, subst, ◌∙◌}
use Rattle.std.specs.Prelude.{◌↔◌}
use Rattle.std.proofs.lemmas.Bool.{false≢true}
use Rattle.x509_rule_facts.specs.Algorithms.{IsBelow}

none_more : {X : Type 0} (ys : List X) (y : X) → [] ≡ ys ++ y ∷ [] → ⊥
none_more [] y e = cc
none_more (z ∷ ys) y e = cc

last_one : {X : Type 0} (xs ys : List X) (x y : X) → xs ++ x ∷ [] ≡ ys ++ y ∷ [] → (xs ≡ ys) × (x ≡ y)
last_one [] [] x y e = (refl, cc)
last_one [] (z ∷ ys) x y e = absurd (none_more ys y (cc))
last_one (z ∷ xs) [] x y e = absurd (let k : [] ≡ xs ++ x ∷ [] = cc in none_more xs x k)
last_one (z ∷ xs) (w ∷ ys) x y e =
    let first : z ≡ w = cc in
    let rest : xs ++ x ∷ [] ≡ ys ++ y ∷ [] = cc in
    let same = last_one xs ys x y rest in
    (let others : xs ≡ ys = same.0 in cc, same.1)

pub below_within : {arcs o before : List ℕ} {low high last : ℕ} {r t : Bool} → o ≡ before ++ last ∷ []
    → IsTrue t ↔ ((low ≤ last) × (last ≤ high)) → IsTrue t → IsTrue r ↔ (before ≡ arcs)
    → IsTrue r ↔ IsBelow arcs low high o
below_within {arcs = arcs} {before = before} {last = last} e w y s = (
  λ h. let k = w.0 y in (last, e ∙ ap (λ z. z ++ last ∷ []) (s.0 h), k.0, k.1),
  λ (n, f, l, m). s.1 (last_one before arcs last n (sym e ∙ f)).0,
)

pub below_other : (arcs before : List ℕ) (last : ℕ) {o : List ℕ} {low high : ℕ} {t : Bool} → o ≡ before ++ last ∷ []
    → IsTrue t ↔ ((low ≤ last) × (last ≤ high)) → t ≡ false → IsTrue t ↔ IsBelow arcs low high o
below_other arcs before last {low = low} {high = high} e w out = (
  λ h. absurd (false≢true (sym out ∙ h)),
  λ (n, f, l, m). let same = last_one before arcs last n (sym e ∙ f) in
      absurd (false≢true (sym out ∙ w.1 (subst (λ z. (low ≤ z) × (z ≤ high)) (sym same.1) (l, m)))),
)
