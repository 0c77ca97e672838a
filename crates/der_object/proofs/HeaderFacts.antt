-- What holds of the header of each object inside another.
use Rattle.std.proofs.Common.{◌≡◌, ℕ, Bool, List, [], ◌∷◌, ◌++◌, refl, sym, ap, subst, ◌∙◌, All}
use Rattle.std.proofs.lemmas.List.Elements.{recursion_from_All, All-append, All-cons, All-nil}
use Rattle.std.specs.List.{AllByRecursion}
use Rattle.std.specs.declared.vec.Vec.{Vec}
use Rattle.std.specs.declared.alloc.Global.{Global}
use Rattle.der_base.specs.declared.header.Header.{Header}
use Rattle.der_base.specs.Leaf.{IsLeafContent}
use Rattle.der_base.specs.Spelling.{no_forms, forms}
use Rattle.der_object.specs.declared.object.BerObject.{BerObject}
use Rattle.der_object.specs.declared.object.BerObjectContent.{BerObjectContent, Row_of-BerObject, end_of-BerObject}
use Rattle.der_object.specs.declared.object.BerObjectContent.{more_of-BerObject, items-the_row-BerObject, None', Some'}
use Rattle.der_object.specs.declared.object.BerObjectContent.TheVariants.{Sequence, Set, Sequence', Set', Optional', Tagged', Unknown}
use Rattle.der_object.specs.declared.object.BerObjectContent.TheBlock.{hidden-the_row-BerObject-0, items_hidden-the_row-BerObject-0}
use Rattle.der_object.specs.HeaderFacts.{inner_forms, row_forms, form_of, forms_of, EachInside, EachInRow, EachHeader, KeepsHeader}
use Rattle.der_object.specs.View.{content_tree}

row_forms_of : {m : _} (k : Row_of-BerObject m) → row_forms k ≡ forms_of (items-the_row-BerObject m k)
row_forms_of end_of-BerObject = refl
row_forms_of (more_of-BerObject h x rest) = ap (forms (form_of (record { header = h; content = x }))) (row_forms_of rest)

pub sequence_forms : (v : Vec BerObject Global) → inner_forms (Sequence v) ≡ forms_of v.items
sequence_forms v = row_forms_of (hidden-the_row-BerObject-0 v) ∙ ap forms_of (items_hidden-the_row-BerObject-0 v)

pub set_forms : (v : Vec BerObject Global) → inner_forms (Set v) ≡ forms_of v.items
set_forms v = row_forms_of (hidden-the_row-BerObject-0 v) ∙ ap forms_of (items_hidden-the_row-BerObject-0 v)

-- a content of no items has no forms
pub leaf_forms : (p : Bool) (t : ℕ) (w : List ℕ) (x : BerObjectContent) → IsLeafContent p t w (content_tree x) → inner_forms x ≡ no_forms
leaf_forms p t w (Sequence' shape row) h = absurd h
leaf_forms p t w (Set' shape row) h = absurd h
leaf_forms p t w (Optional' None') h = absurd h
leaf_forms p t w (Optional' (Some' b i x)) h = absurd h
leaf_forms p t w (Tagged' c k b i x) h = absurd h
leaf_forms p t w _ h = refl

module _ (P : Header → BerObjectContent → Type 0) where
  row_each : {m : _} (k : Row_of-BerObject m) → AllByRecursion (EachHeader P) (items-the_row-BerObject m k) → EachInRow P k
  row_each end_of-BerObject a = tt
  row_each (more_of-BerObject h x rest) a = (a.0.0, a.0.1, row_each rest a.1)

  row_of : (xs ys : List BerObject) → xs ≡ ys → All (EachHeader P) ys → AllByRecursion (EachHeader P) xs
  row_of xs ys e a = subst (AllByRecursion (EachHeader P)) (sym e) (recursion_from_All (EachHeader P) ys a)

  pub sequence_each : (v : Vec BerObject Global) → All (EachHeader P) v.items → EachInside P (Sequence v)
  sequence_each v a = row_each (hidden-the_row-BerObject-0 v) (row_of _ v.items (items_hidden-the_row-BerObject-0 v) a)

  pub set_each : (v : Vec BerObject Global) → All (EachHeader P) v.items → EachInside P (Set v)
  set_each v a = row_each (hidden-the_row-BerObject-0 v) (row_of _ v.items (items_hidden-the_row-BerObject-0 v) a)

  -- a content of no items has no header inside
  pub leaf_each : (p : Bool) (t : ℕ) (w : List ℕ) (x : BerObjectContent) → IsLeafContent p t w (content_tree x) → EachInside P x
  leaf_each p t w (Sequence' shape row) h = absurd h
  leaf_each p t w (Set' shape row) h = absurd h
  leaf_each p t w (Optional' None') h = tt
  leaf_each p t w (Optional' (Some' b i x)) h = absurd h
  leaf_each p t w (Tagged' c n b i x) h = absurd h
  leaf_each p t w _ h = tt

  -- one more item
  pub each_push : (os : List BerObject) (o : BerObject) → All (EachHeader P) os → EachHeader P o → All (EachHeader P) (os ++ o ∷ [])
  each_push os o a h = All-append (EachHeader P) os (o ∷ []) a (All-cons (EachHeader P) o [] h (All-nil (EachHeader P)))

-- the content of a leaf has no header to keep
pub leaf_keeps : (h : Header) (p : Bool) (t : ℕ) (w : List ℕ) (x : BerObjectContent) → IsLeafContent p t w (content_tree x) → KeepsHeader h x
leaf_keeps h p t w (Unknown a) k = absurd k
leaf_keeps h p t w _ k = tt
