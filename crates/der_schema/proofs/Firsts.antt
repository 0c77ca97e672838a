-- The first elements of an input, one of them among the others.
use Rattle.std.proofs.Common.{◌≡◌, ℕ, suc, ◌+◌, ◌<◌, ◌≤◌, Option, Some, None, List, [], ◌∷◌, ◌++◌, ap, append_assoc}
use Rattle.std.proofs.Common.{arith, drop, get_or, length, map, refl, subst, sym, take, ◌∙◌}
use Rattle.std.specs.List.{All}
use Rattle.std.specs.Option.{is_some}
use Rattle.std.proofs.Math.Seq.{take-suc}
use Rattle.std.proofs.lemmas.List.{get_or-take, length-take-le, map-append, take-append-drop, take-take}
use Rattle.std.proofs.lemmas.List.Elements.{All-get_or}
use Rattle.der_elements.specs.declared.element.Element.{Element}
use Rattle.der_elements.specs.Visits.{Visited}
use Rattle.der_elements.specs.Walked.{visited_of}
use Rattle.der_schema.specs.declared.matching.Name.{Name}
use Rattle.der_schema.specs.Steps.{label_of}

-- one more element
pub one_more : (xs : List Element) (k : ℕ) (d : Element) → k < length xs
    → map visited_of (take (k + 1) xs) ≡ map visited_of (take k xs) ++ visited_of (get_or xs k d) ∷ []
one_more xs k d within =
    let e : k + 1 ≡ suc k = omega arith in
    ap (λ (m : ℕ). map visited_of (take m xs)) e
    ∙ ap (map visited_of) (take-suc xs k d within) ∙ map-append visited_of (take k xs) (get_or xs k d ∷ [])

-- one element, those before it, and those after it
pub parted : (xs : List Element) (n k : ℕ) (d : Element) → k < n → n ≤ length xs → map visited_of (take n xs)
    ≡ map visited_of (take k xs) ++ visited_of (get_or xs k d) ∷ map visited_of (drop (k + 1) (take n xs))
parted xs n k d before within =
    let rest = drop (k + 1) (take n xs) in
    let le : k + 1 ≤ n = omega (arith, before) in
    let parts : take n xs ≡ take (k + 1) xs ++ rest =
    sym (take-append-drop (k + 1) (take n xs)) ∙ ap (λ (l : List Element). l ++ rest) (take-take (k + 1) n xs le) in
    ap (map visited_of) parts ∙ map-append visited_of (take (k + 1) xs) rest
    ∙ ap (λ (l : List Visited). l ++ map visited_of rest) (one_more xs k d (omega (arith, before, within)))
    ∙ append_assoc (map visited_of (take k xs)) (visited_of (get_or xs k d) ∷ []) (map visited_of rest)

pub shallow_at : (xs : List Element) (n k : ℕ) (d : Element) → k < n → n ≤ length xs
    → All (λ (e : Element). e.depth ≤ 100) (take n xs) → (get_or xs k d).depth ≤ 100
shallow_at xs n k d before within all =
    subst (λ (e : Element). e.depth ≤ 100) (get_or-take n xs k d before)
    (All-get_or (λ (e : Element). e.depth ≤ 100) (take n xs) k d
    (omega (arith, before, length-take-le n xs within)) all)

pub label_there : (o : Option Name) → is_some (label_of o) ≡ is_some o
label_there None = refl
label_there (Some n) = refl
