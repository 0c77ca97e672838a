-- Octets in the middle of an input, and the first of several trees.
use Rattle.std.proofs.Common.{◌≡◌, ℕ, ◌+◌, ◌-◌, ◌≤◌, nat_le, true, List, [], ◌∷◌, ◌++◌, length, take, drop, refl, ap, ◌∙◌, arith, length-append}
use Rattle.der_elements.specs.declared.check.element.Element.{Element}
use Rattle.der_parser.specs.Viewing.Views.{View, first_view, trees, octets_between}
use Rattle.der_parser.proofs.ViewLaws.Lists.{trees_drop}

pub take_front : {A : Type 0} (xs ys : List A) → take (length xs) (xs ++ ys) ≡ xs
take_front [] ys = refl
take_front (x ∷ xs) ys = ap (λ r. x ∷ r) (take_front xs ys)

pub drop_front : {A : Type 0} (xs ys : List A) → drop (length xs) (xs ++ ys) ≡ ys
drop_front [] ys = refl
drop_front (x ∷ xs) ys = drop_front xs ys

le_true : (m n : ℕ) → m ≤ n → nat_le m n ≡ true
le_true m n h = search (arith, h)

-- the octets between two others
pub between_middle : (i f w z : List ℕ) (m k : ℕ) → i ≡ f ++ (w ++ z) → m ≡ length f → k ≡ m + length w → octets_between i m k ≡ w
between_middle i f w z m k e em ek =
    let size : length i ≡ length f + (length w + length z) = ap length e ∙ length-append f (w ++ z) ∙ ap (λ n. length f + n) (length-append w z) in
    let a : nat_le m k ≡ true = le_true m k (omega (arith, ek)) in
    let b : nat_le k (length i) ≡ true = le_true k (length i) (omega (arith, ek, em, size)) in
    let n : k - m ≡ length w = omega (arith, ek) in
    rw (a, b) (ap (λ j. take j (drop m i)) n ∙ ap (λ j. take (length w) (drop m j)) e ∙ ap (λ j. take (length w) (drop j (f ++ (w ++ z)))) em
    ∙ ap (take (length w)) (drop_front f (w ++ z)) ∙ take_front w z)

-- an element and those inside it, and others that follow
pub trees_first : (i : List ℕ) (e : Element) (inner more : List Element) → e.inside ≡ length inner
    → trees i (e ∷ (inner ++ more)) ≡ record { input = i; element = e; inside = inner } ∷ trees i more
trees_first i e inner more h =
    let a : take e.inside (inner ++ more) ≡ inner = ap (λ k. take k (inner ++ more)) h ∙ take_front inner more in
    let b : drop e.inside (inner ++ more) ≡ more = ap (λ k. drop k (inner ++ more)) h ∙ drop_front inner more in
    let v : List Element → View = λ es. record { input = i; element = e; inside = es } in
    ap (λ r. first_view i e (inner ++ more) ∷ r) (trees_drop e.inside i (inner ++ more))
    ∙ ap (λ r. first_view i e (inner ++ more) ∷ trees i r) b ∙ ap (λ r. v r ∷ trees i more) a
