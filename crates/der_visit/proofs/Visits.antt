-- Visits of one object after another.
use Rattle.std.proofs.Common.{◌≡◌, ℕ, ◌+◌, ◌<◌, List, [], ◌∷◌, ◌++◌, length, take, get_or, refl, sym, ap, ◌∙◌, append_assoc}
use Rattle.std.proofs.lemmas.List.{append-nil, take_more}
use Rattle.std.specs.declared.vec.Vec.{Vec}
use Rattle.std.specs.declared.alloc.Global.{Global}
use Rattle.der_base.specs.Listing.{deeper, listing, content_listing, list_listing}
use Rattle.der_base.specs.Tree.{Node}
use Rattle.der_object.specs.declared.object.BerObject.{BerObject}
use Rattle.der_object.specs.declared.object.BerObjectContent.{BerObjectContent}
use Rattle.der_object.specs.declared.object.BerObjectContent.TheVariants.{Sequence, Set, Sequence', Set', Optional'}
use Rattle.der_object.specs.declared.object.BerObjectContent.{None', Some'}
use Rattle.der_object.specs.declared.object.BerObjectContent.TheBlock.{shown-the_row-BerObject-0}
use Rattle.der_object.specs.View.{tree, content_tree, trees}
use Rattle.der_object.proofs.Trees.{sequence_tree, set_tree, every_sequence, every_set}
use Rattle.der_visit.specs.Visiting.{TakenThrough, through_none, through_entry}

-- what a list's items are entered for
pub sequence_listing : (x : BerObjectContent) (v : Vec BerObject Global) (os : List BerObject) (n m : ℕ) → x ≡ Sequence v → os ≡ v.items → m ≡ deeper n
    → content_listing (content_tree x) n ≡ list_listing (trees os) m
sequence_listing x v os n m e f g = rw (e, f, g, sequence_tree v) refl

pub set_listing : (x : BerObjectContent) (v : Vec BerObject Global) (os : List BerObject) (n m : ℕ) → x ≡ Set v → os ≡ v.items → m ≡ deeper n
    → content_listing (content_tree x) n ≡ list_listing (trees os) m
set_listing x v os n m e f g = rw (e, f, g, set_tree v) refl

-- any other content is not entered
pub no_listing : (x : BerObjectContent) (n : ℕ) → ((v : Vec BerObject Global) → x ≡ Sequence v → ⊥) → ((v : Vec BerObject Global) → x ≡ Set v → ⊥)
    → content_listing (content_tree x) n ≡ []
no_listing (Sequence' shape row) n f g = absurd (f (shown-the_row-BerObject-0 shape row) (every_sequence shape row))
no_listing (Set' shape row) n f g = absurd (g (shown-the_row-BerObject-0 shape row) (every_set shape row))
no_listing (Optional' None') n f g = refl
no_listing (Optional' (Some' b h x)) n f g = refl
no_listing _ n f g = refl

-- one item more
listing_push : (os : List BerObject) (o : BerObject) (n : ℕ) → list_listing (trees (os ++ o ∷ [])) n ≡ list_listing (trees os) n ++ listing (tree o) n
listing_push [] o n = append-nil (listing (tree o) n)
listing_push (x ∷ os) o n =
    ap (λ es. listing (tree x) n ++ es) (listing_push os o n) ∙ sym (append_assoc (listing (tree x) n) (list_listing (trees os) n) (listing (tree o) n))

pub listing_more : (os : List BerObject) (i : ℕ) (o : BerObject) (n : ℕ) → i < length os → o ≡ get_or os i o
    → list_listing (trees (take (i + 1) os)) n ≡ list_listing (trees (take i os)) n ++ listing (tree o) n
listing_more os i o n within e =
    ap (λ ys. list_listing (trees ys) n) (take_more os i o within ∙ ap (λ y. take i os ++ y ∷ []) (sym e)) ∙ listing_push (take i os) o n

module _ {S : Type 0} {R : S → Node → ℕ → S → Type 0} where
  -- one run after another
  through_both : {es fs : List (Node × ℕ)} {s m t : S} → TakenThrough R es s m → TakenThrough R fs m t
      → TakenThrough R (es ++ fs) s t
  through_both through_none k = k
  through_both (through_entry r h) k = through_entry r (through_both h k)

  -- one item more
  pub through_more : (os : List BerObject) (i : ℕ) (o : BerObject) {n : ℕ} {s m t : S} → i < length os → o ≡ get_or os i o
      → TakenThrough R (list_listing (trees (take i os)) n) s m → TakenThrough R (listing (tree o) n) m t
      → TakenThrough R (list_listing (trees (take (i + 1) os)) n) s t
  through_more os i o within e h k = rw (listing_more os i o _ within e) (through_both h k)

  -- an object's step, and then those of its items
  pub through_object : (o : BerObject) {es : List (Node × ℕ)} {n : ℕ} {s m t : S} → R s (tree o) n m
      → content_listing (content_tree o.content) n ≡ es → TakenThrough R es m t → TakenThrough R (listing (tree o) n) s t
  through_object o a e h = through_entry a (rw e h)
