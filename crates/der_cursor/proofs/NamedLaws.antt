-- A name in front of those that a refusal has, of which the last eight are kept.
use Rattle.std.proofs.Common.{◌≡◌, ℕ, suc, ◌<◌, ◌-◌, List, [], ◌∷◌, length, drop, Result, Ok, Err, refl, ap, ◌∙◌, arith}
use Rattle.std.specs.Prelude.{◌↔◌, OnOk, OnErr, IsOk}

pub one_more : {A E : Type 0} (xs ys : List A) (n : A) (r : Result (Unit {0}) E) → (IsOk r ↔ (length xs < 8)) → OnOk r (ys ≡ n ∷ xs) → OnErr r (ys ≡ xs) → OnErr r (length xs ≡ 8)
    → ys ≡ drop (suc (length xs) - 8) (n ∷ xs)
one_more xs ys n (Ok u) v o e f =
    let few : length xs < 8 = v.0 refl in
    let none : 0 ≡ suc (length xs) - 8 = omega (arith, few) in
    o ∙ ap (λ k. drop k (n ∷ xs)) none
one_more xs ys n (Err x) v o e f =
    let one : 1 ≡ suc (length xs) - 8 = omega (arith, f) in
    e ∙ ap (λ k. drop k (n ∷ xs)) one

pub at_error : {T E : Type 0} {P Q : Type 0} (r : Result T E) → OnErr r P → (P → Q) → OnErr r Q
at_error (Ok x) h f = tt
at_error (Err e) h f = f h
