-- The lists of nodes.
use Rattle.std.proofs.Common.{◌≡◌, ℕ, zero, suc, List, [], ◌∷◌, Some, None, refl, ap, subst, drop, slice_get, ◌≤◌, length, arith}
use Rattle.der_elements.specs.declared.check.element.Element.{Element}
use Rattle.der_parser.specs.Viewing.Views.{View, first_view, preorder, trees_after, trees}

-- the first of those that are left after k elements is the one of that number
pub preorder_drop : (k : ℕ) (i : List ℕ) (es : List Element) → slice_get (preorder i (drop k es)) 0 ≡ slice_get (preorder i es) k
preorder_drop zero i es = refl
preorder_drop (suc k) i [] = refl
preorder_drop (suc k) i (e ∷ es) = preorder_drop k i es

pub trees_drop : (k : ℕ) (i : List ℕ) (es : List Element) → trees_after k i es ≡ trees i (drop k es)
trees_drop zero i es = refl
trees_drop (suc k) i [] = refl
trees_drop (suc k) i (e ∷ es) = trees_drop k i es

-- where there is no first, there is none
pub no_first : (i : List ℕ) (es : List Element) → None ≡ slice_get (preorder i es) 0 → es ≡ []
no_first i [] h = refl
no_first i (e ∷ es) h = absurd cc

-- the first of the trees, and those that follow what is inside it
pub first_tree : (i : List ℕ) (es : List Element) (v : View) → Some v ≡ slice_get (preorder i es) 0
    → trees i es ≡ v ∷ trees i (drop v.element.inside (drop 1 es))
first_tree i [] v h = absurd cc
first_tree i (e ∷ es) v h =
    let q : first_view i e es ≡ v = cc in
    subst (λ u. trees i (e ∷ es) ≡ u ∷ trees i (drop u.element.inside es)) q (ap (λ r. first_view i e es ∷ r) (trees_drop e.inside i es))

-- there are no more nodes than elements
pub preorder_few : (i : List ℕ) (es : List Element) → length (preorder i es) ≡ length es
preorder_few i [] = refl
preorder_few i (e ∷ es) = ap suc (preorder_few i es)

pub trees_few : (k : ℕ) (i : List ℕ) (es : List Element) → length (trees_after k i es) ≤ length es
trees_few k i [] = omega arith
trees_few (suc k) i (e ∷ es) = let h = trees_few k i es in omega (arith, h)
trees_few zero i (e ∷ es) = let h = trees_few e.inside i es in omega (arith, h)
