-- Copies of lists.
use Rattle.std.proofs.Common.{◌≡◌, ℕ, ◌+◌, ◌<◌, List, [], ◌∷◌, ◌++◌, length, take, get_or, refl, sym, ap, subst, ◌∙◌, append_assoc}
use Rattle.std.proofs.lemmas.List.{append-nil, take_more}
use Rattle.std.specs.declared.vec.Vec.{Vec}
use Rattle.std.specs.declared.alloc.Global.{Global}
use Rattle.der_base.specs.Tree.{sequence, set, no_nodes, nodes}
use Rattle.der_object.specs.declared.object.BerObject.{BerObject}
use Rattle.der_object.specs.declared.object.BerObjectContent.{BerObjectContent, Row_of-BerObject, end_of-BerObject, more_of-BerObject, items-the_row-BerObject}
use Rattle.der_object.specs.declared.object.BerObjectContent.TheVariants.{Sequence, Set}
use Rattle.der_object.specs.declared.object.BerObjectContent.TheBlock.{hidden-the_row-BerObject-0, items_hidden-the_row-BerObject-0}
use Rattle.der_object.specs.Clones.{inner_headers, row_headers, headers_of, all_headers, IsCopyOf, IsContentCopyOf, AreCopiesOf}
use Rattle.der_object.specs.View.{content_tree, tree, trees}
use Rattle.der_object.proofs.Trees.{joined, trees_push, sequence_tree, set_tree}

row_headers_of : {m : _} (k : Row_of-BerObject m) → row_headers k ≡ all_headers (items-the_row-BerObject m k)
row_headers_of end_of-BerObject = refl
row_headers_of (more_of-BerObject h x rest) = ap (λ hs. (h ∷ inner_headers x) ++ hs) (row_headers_of rest)

sequence_headers : (v : Vec BerObject Global) → inner_headers (Sequence v) ≡ all_headers v.items
sequence_headers v = row_headers_of (hidden-the_row-BerObject-0 v) ∙ ap all_headers (items_hidden-the_row-BerObject-0 v)

set_headers : (v : Vec BerObject Global) → inner_headers (Set v) ≡ all_headers v.items
set_headers v = row_headers_of (hidden-the_row-BerObject-0 v) ∙ ap all_headers (items_hidden-the_row-BerObject-0 v)

headers_push : (os : List BerObject) (o : BerObject) → all_headers (os ++ o ∷ []) ≡ all_headers os ++ headers_of o
headers_push [] o = append-nil (headers_of o)
headers_push (x ∷ os) o = ap (λ hs. headers_of x ++ hs) (headers_push os o) ∙ sym (append_assoc (headers_of x) (all_headers os) (headers_of o))

copies_push : (os copies : List BerObject) (o c : BerObject) → AreCopiesOf os copies → IsCopyOf o c → AreCopiesOf (os ++ o ∷ []) (copies ++ c ∷ [])
copies_push os copies o c a h = record {
  list = trees_push copies c ∙ ap (λ l. joined l (nodes (tree c) no_nodes)) a.list ∙ ap (λ n. joined (trees os) (nodes n no_nodes)) h.tree ∙ sym (trees_push os o);
  headers = headers_push copies c ∙ ap (λ hs. hs ++ headers_of c) a.headers ∙ ap (λ hs. all_headers os ++ hs) h.headers ∙ sym (headers_push os o);
}

-- the item at the place i is copied too
pub copies_more : (os copies more : List BerObject) (i : ℕ) (o c : BerObject) → i < length os → o ≡ get_or os i o → more ≡ copies ++ c ∷ []
    → AreCopiesOf (take i os) copies → IsCopyOf o c → AreCopiesOf (take (i + 1) os) more
copies_more os copies more i o c within e f a h =
    let g = take_more os i o within ∙ ap (λ x. take i os ++ x ∷ []) (sym e) in
    subst (λ xs. AreCopiesOf xs more) (sym g) (subst (AreCopiesOf (take i os ++ o ∷ [])) (sym f) (copies_push (take i os) copies o c a h))

-- a list of copies is a copy of the list
pub copied_sequence : (x : BerObjectContent) (v w : Vec BerObject Global) (os : List BerObject) → x ≡ Sequence v → os ≡ v.items → AreCopiesOf os w.items → IsContentCopyOf x (Sequence w)
copied_sequence x v w os e f a = record {
  content = sequence_tree w ∙ ap sequence (a.list ∙ ap trees f) ∙ sym (ap content_tree e ∙ sequence_tree v);
  headers = sequence_headers w ∙ a.headers ∙ ap all_headers f ∙ sym (ap inner_headers e ∙ sequence_headers v);
}

pub copied_set : (x : BerObjectContent) (v w : Vec BerObject Global) (os : List BerObject) → x ≡ Set v → os ≡ v.items → AreCopiesOf os w.items → IsContentCopyOf x (Set w)
copied_set x v w os e f a = record {
  content = set_tree w ∙ ap set (a.list ∙ ap trees f) ∙ sym (ap content_tree e ∙ set_tree v);
  headers = set_headers w ∙ a.headers ∙ ap all_headers f ∙ sym (ap inner_headers e ∙ set_headers v);
}
