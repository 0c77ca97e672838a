-- The elements of a vector.
use Rattle.std.proofs.Common.{◌≡◌, ℕ, List, [], ◌∷◌, ◌++◌, length, take, drop, map, refl, ap, sym, ◌∙◌, arith}
use Rattle.std.proofs.lemmas.List.{length-map, take-append-le}
use Rattle.der_base.specs.declared.rules.Rules.{Rules}
use Rattle.der_elements.specs.declared.check.element.Element.{Element}
use Rattle.der_elements.specs.Check.Elements.{IsElement}
use Rattle.der_elements.specs.Check.Listing.{ListsElement, listed_one}
use Rattle.der_elements.specs.Check.Overlay.{overlay}
use Rattle.der_elements.proofs.CheckLaws.OneList.{one_same}
use Rattle.der_elements.proofs.CheckLaws.Overlays.{map_same}
use Rattle.der_parser.specs.Viewing.Vectors.{HasElements}

-- a list that is written over another of its length
pub overlay_all : {A : Type 0} (xs ys : List A) → length xs ≡ length ys → overlay xs 0 ys ≡ ys
overlay_all [] [] e = refl
overlay_all [] (y ∷ ys) e = absurd (omega (arith, e))
overlay_all (x ∷ xs) [] e = absurd (omega (arith, e))
overlay_all (x ∷ xs) (y ∷ ys) e = ap (λ r. y ∷ r) (overlay_all xs ys (omega (arith, e)))

take_all : {A : Type 0} (xs : List A) → take (length xs) xs ≡ xs
take_all [] = refl
take_all (x ∷ xs) = ap (λ r. x ∷ r) (take_all xs)

-- the items of a vector that was written as a whole
pub filled : {A : Type 0} (n : ℕ) (items old new ys : List A) → length old ≡ n → length ys ≡ n → new ≡ overlay old 0 ys → take n (new ++ drop (length new) items) ≡ ys
filled n items old new ys ho hy e =
    let whole : new ≡ ys = e ∙ overlay_all old ys (ho ∙ sym hy) in
    let size : length new ≡ n = ap length whole ∙ hy in
    take-append-le n new (drop (length new) items) (omega (arith, size)) ∙ ap (λ k. take k new) (sym size) ∙ take_all new ∙ whole

-- An input is listed twice: first without slots, and then in as many as there are elements.
pub listed_twice : (r : Rules) (d : ℕ) (i rest rest2 : List ℕ) (n n2 : ℕ) (old new items : List Element) → (b : List ℕ) × (i ≡ b ++ rest) × (is : IsElement r d b) × (n ≡ length (listed_one is 0))
    → ListsElement r (λ e. e) d i rest2 n2 old new → length old ≡ n → HasElements r d i rest2 (take n (new ++ drop (length new) items))
listed_twice r d i rest rest2 n n2 old new items (b, e, is, count) (b2, e2, is2, kept2) size =
    let same = one_same rest rest2 0 0 is is2 refl (sym e ∙ e2) in
    let many : length (map (λ x. x) (listed_one is2 0)) ≡ n = length-map (listed_one is2 0) (λ x. x) ∙ ap length (sym same.list) ∙ sym count in
    (b2, e2, is2, filled n items old new (map (λ x. x) (listed_one is2 0)) size many kept2.1 ∙ map_same (listed_one is2 0))
