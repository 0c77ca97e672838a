-- Octets that don't fit.
use Rattle.std.proofs.Common.{◌≡◌, ℕ, zero, suc, ◌+◌, ◌<◌, ◌≤◌, Bool, true, List, [], ◌∷◌, ◌++◌, length, take, filter, get_or, Option, Some, sym, ap, inl, inr, ◌∙◌, arith}
use Rattle.std.proofs.lemmas.Bool.{cases_Bool}
use Rattle.std.proofs.lemmas.Iterator.{YieldsList}
use Rattle.std.proofs.lemmas.Iterator.Consumers.{YieldsList-so_far, YieldsList-turn}
use Rattle.std.proofs.lemmas.List.{length-append, length-take-le}
use Rattle.std.proofs.lemmas.List.Folds.{flat_map-map}
use Rattle.std.specs.Borrow.{Bor}
use Rattle.std.specs.Iterator.{Yields}
use Rattle.std.specs.List.{flat_map}
use Rattle.der_input.specs.Marks.{Puts}

-- where octets end that are written from the start on
pub end_of : (old new octets : List ℕ) (end : ℕ) → Puts old 0 octets new (Some end) → length octets ≡ end
end_of old new octets end h = sym (ap length h.1) ∙ length-take-le end new h.0

-- n octets more don't fit, and v has them, so all don't fit
pub not_all : (room v all : List ℕ) (end n : ℕ) → end ≤ length room → all ≡ take end room ++ v → n ≤ length v → length room < end + n → length room < length all
not_all room v all end n fits e within none = omega (arith, ap length e, length-append (take end room) v, length-take-le end room fits, within, none)

parts_within : (f : List ℕ → List ℕ) (all : List (List ℕ)) (k : ℕ) (w : List ℕ) → k < length all → w ≡ get_or all k w
    → length (flat_map f (take k all)) + length (f w) ≤ length (flat_map f all)
parts_within f [] k w below e = absurd (omega arith)
parts_within f (v ∷ all) zero w below e = omega (arith, ap (λ u. length (f u)) e, length-append (f v) (flat_map f all))
parts_within f (v ∷ all) (suc k) w below e =
    omega (arith, parts_within f all k w (omega (arith, below)) e, length-append (f v) (flat_map f (take k all)), length-append (f v) (flat_map f all))

-- what a loop over parts of a text has for those before this one and for this one, all of them have
pub more_than_room : {S : Type 0} {steps : S → Option (Bor (List ℕ)) → S → Type 0} {s : S} {all : List (List ℕ)} (f : List ℕ → List ℕ)
    → YieldsList steps (λ y. y.now) s all → (xs : List (Bor (List ℕ))) (t : S) → Yields steps s xs t → (r : Option (Bor (List ℕ))) (u : S) (x : Bor (List ℕ)) → r ≡ Some x → steps t r u
    → length (flat_map (λ y. f y.now) xs) + length (f x.now) ≤ length (flat_map f all)
more_than_room {all = all} f road xs t y r u x is step =
    let turn = YieldsList-turn road xs t y r u x is step in
    let so_far = sym (flat_map-map f (λ y. y.now) xs) ∙ ap (flat_map f) (YieldsList-so_far road xs t y) in
    omega (arith, ap length so_far, parts_within f all (length xs) x.now turn.0 turn.1)

-- one octet more that passes
pub one_more : (p : ℕ → Bool) (xs : List ℕ) (k d : ℕ) → k < length xs → p (get_or xs k d) ≡ true → length (filter p (take k xs)) + 1 ≤ length (filter p xs)
one_more p [] k d below h = absurd (omega arith)
one_more p (x ∷ xs) zero d below h = rw h (omega arith)
one_more p (x ∷ xs) (suc k) d below h = elim (cases_Bool (p x)) [
  | inl t ↦ rw t (omega (arith, one_more p xs k d (omega (arith, below)) h))
  | inr t ↦ rw t (one_more p xs k d (omega (arith, below)) h)
]
