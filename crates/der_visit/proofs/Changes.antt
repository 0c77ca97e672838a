-- Changes of one object after another.
use Rattle.std.proofs.Common.{◌≡◌, ℕ, zero, suc, ◌+◌, ◌≤◌, ◌<◌, false, List, [], ◌∷◌, ◌++◌, length, take, drop}
use Rattle.std.proofs.Common.{set as list_set}
use Rattle.std.proofs.Common.{get_or, add-one, refl, sym, ap, ◌∙◌, arith}
use Rattle.std.proofs.lemmas.List.{drop_more, take_more_set}
use Rattle.std.specs.declared.vec.Vec.{Vec}
use Rattle.std.specs.declared.alloc.Global.{Global}
use Rattle.der_base.specs.Tree.{Node, height, content_height, list_height}
use Rattle.der_object.specs.declared.object.BerObject.{BerObject}
use Rattle.der_object.specs.declared.object.BerObjectContent.{BerObjectContent}
use Rattle.der_object.specs.declared.object.BerObjectContent.TheVariants.{Sequence, Set, Sequence', Set', Optional'}
use Rattle.der_object.specs.declared.object.BerObjectContent.{None', Some'}
use Rattle.der_object.specs.declared.object.BerObjectContent.TheBlock.{shown-the_row-BerObject-0}
use Rattle.der_object.specs.View.{tree, content_tree, trees}
use Rattle.der_object.proofs.Trees.{sequence_tree, set_tree, every_sequence, every_set}
use Rattle.der_visit.specs.Changing.{has_items, ChangesObject, ChangesItems, at_end, at_item}

-- only a SEQUENCE and a SET have items
pub no_items : (x : BerObjectContent) → ((v : Vec BerObject Global) → x ≡ Sequence v → ⊥)
    → ((v : Vec BerObject Global) → x ≡ Set v → ⊥) → has_items (content_tree x) ≡ false
no_items (Sequence' shape row) f g = absurd (f (shown-the_row-BerObject-0 shape row) (every_sequence shape row))
no_items (Set' shape row) f g = absurd (g (shown-the_row-BerObject-0 shape row) (every_set shape row))
no_items (Optional' None') f g = refl
no_items (Optional' (Some' b h x)) f g = refl
no_items _ f g = refl

-- items are lower than the content
pub sequence_lower : (x : BerObjectContent) (v : Vec BerObject Global) → x ≡ Sequence v → content_height (content_tree x) ≡ suc (list_height (trees v.items))
sequence_lower x v e = ap content_height (ap content_tree e ∙ sequence_tree v)

pub set_lower : (x : BerObjectContent) (v : Vec BerObject Global) → x ≡ Set v → content_height (content_tree x) ≡ suc (list_height (trees v.items))
set_lower x v e = ap content_height (ap content_tree e ∙ set_tree v)

-- a list that becomes no higher makes the content no higher
pub sequence_no_higher : (x : BerObjectContent) (v : Vec BerObject Global) (y : BerObjectContent) (w : Vec BerObject Global)
    → x ≡ Sequence v → y ≡ Sequence w → list_height (trees w.items) ≤ list_height (trees v.items)
    → content_height (content_tree y) ≤ content_height (content_tree x)
sequence_no_higher x v y w e f h = omega (arith, sequence_lower x v e, sequence_lower y w f, h)

pub set_no_higher : (x : BerObjectContent) (v : Vec BerObject Global) (y : BerObjectContent) (w : Vec BerObject Global)
    → x ≡ Set v → y ≡ Set w → list_height (trees w.items) ≤ list_height (trees v.items)
    → content_height (content_tree y) ≤ content_height (content_tree x)
set_no_higher x v y w e f h = omega (arith, set_lower x v e, set_lower y w f, h)

-- an item is no higher than the highest
pub item_height : (os : List BerObject) (i : ℕ) (o : BerObject) (rest : List BerObject) → drop i os ≡ o ∷ rest → height (tree o) ≤ list_height (trees os)
item_height [] zero o rest e = cc
item_height [] (suc i) o rest e = cc
item_height (x ∷ os) zero o rest e = let same : x ≡ o = cc in rw same (omega arith)
item_height (x ∷ os) (suc i) o rest e = omega (arith, item_height os i o rest e)

take_suc : (os : List BerObject) (i : ℕ) (o : BerObject) (rest : List BerObject) → drop i os ≡ o ∷ rest → take (suc i) os ≡ take i os ++ o ∷ []
take_suc [] zero o rest e = cc
take_suc [] (suc i) o rest e = cc
take_suc (x ∷ os) zero o rest e = let same : x ≡ o = cc in ap (λ y. y ∷ []) same
take_suc (x ∷ os) (suc i) o rest e = ap (λ ys. x ∷ ys) (take_suc os i o rest e)

-- the front with one item more
take_of_drop : (os : List BerObject) (i : ℕ) (o : BerObject) (rest : List BerObject) → drop i os ≡ o ∷ rest → take (i + 1) os ≡ take i os ++ o ∷ []
take_of_drop os i o rest e = rw add-one (take_suc os i o rest e)

-- what follows the place i begins with the item there
pub item_of_drop : (os : List BerObject) (i : ℕ) (o : BerObject) → i < length os → o ≡ get_or os i o → drop i os ≡ o ∷ drop (i + 1) os
item_of_drop os i o within e = drop_more os i o within ∙ ap (λ x. x ∷ drop (i + 1) os) (sym e)

module _ {S : Type 0} {R : S → Node → ℕ → S → Node → Type 0} where
  -- one item more
  changes_last : (xs ys : List BerObject) (a b : BerObject) {s t u : S} {n : ℕ}
      → ChangesItems R s (trees xs) n t (trees ys) → ChangesObject R t (tree a) n u (tree b)
      → ChangesItems R s (trees (xs ++ a ∷ [])) n u (trees (ys ++ b ∷ []))
  changes_last [] [] a b at_end k = at_item k at_end
  changes_last [] (y ∷ ys) a b h k = elim h [ ]
  changes_last (x ∷ xs) [] a b h k = elim h [ ]
  changes_last (x ∷ xs) (y ∷ ys) a b (at_item r h) k = at_item r (changes_last xs ys a b h k)

  -- the item at the place i is put back changed
  pub changes_more : (xs ys : List BerObject) (i : ℕ) (a b : BerObject) {s t u : S} {n : ℕ} → i < length ys → drop i xs ≡ a ∷ drop (i + 1) ys
      → ChangesItems R s (trees (take i xs)) n t (trees (take i ys)) → ChangesObject R t (tree a) n u (tree b)
      → ChangesItems R s (trees (take (i + 1) xs)) n u (trees (take (i + 1) (list_set ys i b)))
  changes_more xs ys i a b within e h k = rw (take_of_drop xs i a _ e, take_more_set ys i b within)
      (changes_last (take i xs) (take i ys) a b h k)
