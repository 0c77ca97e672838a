-- The trees of lists of objects, of tagged objects, and of those that may be absent.
use Rattle.std.proofs.Common.{Some, None, Option, ◌≡◌, ◌≢◌, ℕ, zero, suc, ◌+◌, ◌-◌, ◌<◌, ◌≤◌, Bool, true, false}
use Rattle.std.proofs.Common.{◌&&◌, List, [], ◌∷◌, ◌++◌, length, drop, get_or, refl, sym, ap, ◌∙◌, arith, append_assoc, length-append}
use Rattle.std.proofs.Math.ListN.{drop_of_length-le}
use Rattle.std.proofs.lemmas.List.{append-nil, drop_more}
use Rattle.std.specs.declared.vec.Vec.{Vec}
use Rattle.std.specs.declared.alloc.Global.{Global}
use Rattle.std.specs.Global.{Box}
use Rattle.der_base.specs.declared.header.Class.{Class}
use Rattle.der_base.specs.declared.header.Header.{Header}
use Rattle.der_base.specs.declared.header.Tag.{Tag}
use Rattle.der_base.specs.Encoding.{encoding, encodings, content_octets, element}
use Rattle.der_base.specs.Header.{class_of, is_constructed, number_of}
use Rattle.der_base.specs.Octets.{identifier, shortest_length}
use Rattle.der_base.specs.TreeEquality.{same_node, same_content, same_nodes}
use Rattle.der_base.specs.Tree.{sequence, set, present, tagged, Nodes, no_nodes, nodes}
use Rattle.der_object.specs.declared.object.BerObject.{BerObject}
use Rattle.der_object.specs.declared.object.BerObjectContent.{BerObjectContent, roll-BerObjectContent, roll-out-BerObjectContent, Row_of-BerObject, end_of-BerObject}
use Rattle.der_object.specs.declared.object.BerObjectContent.{more_of-BerObject, items-the_row-BerObject, Held-BerObjectContent-Optional-0, None', Some'}
use Rattle.der_object.specs.declared.object.BerObjectContent.TheVariants.{Null, Optional, Tagged, Sequence, Set, Optional'}
use Rattle.der_object.specs.declared.object.BerObjectContent.TheVariants.{Tagged', Sequence', Set', outs-Sequence', outs-Set', rolls-Sequence, rolls-Set}
use Rattle.der_object.specs.declared.object.BerObjectContent.TheBlock.{hidden-the_row-BerObject-0, items_hidden-the_row-BerObject-0, shown-the_row-BerObject-0}
use Rattle.der_object.specs.View.{node_of, tree, content_tree, row_tree, trees}

row_trees : {m : _} (k : Row_of-BerObject m) → row_tree k ≡ trees (items-the_row-BerObject m k)
row_trees end_of-BerObject = refl
row_trees (more_of-BerObject h x rest) = ap (nodes (node_of h (content_tree x))) (row_trees rest)

pub sequence_tree : (v : Vec BerObject Global) → content_tree (Sequence v) ≡ sequence (trees v.items)
sequence_tree v = ap sequence (row_trees (hidden-the_row-BerObject-0 v) ∙ ap trees (items_hidden-the_row-BerObject-0 v))

pub set_tree : (v : Vec BerObject Global) → content_tree (Set v) ≡ set (trees v.items)
set_tree v = ap set (row_trees (hidden-the_row-BerObject-0 v) ∙ ap trees (items_hidden-the_row-BerObject-0 v))

-- one list behind another
abbrev pub joined : Nodes → Nodes → Nodes
joined no_nodes m = m
joined (nodes o l) m = nodes o (joined l m)

pub trees_push : (os : List BerObject) (o : BerObject) → trees (os ++ o ∷ []) ≡ joined (trees os) (nodes (tree o) no_nodes)
trees_push [] o = refl
trees_push (x ∷ os) o = ap (nodes (tree x)) (trees_push os o)

pub encodings_push : (os : List BerObject) (o : BerObject) → encodings (trees (os ++ o ∷ [])) ≡ encodings (trees os) ++ encoding (tree o)
encodings_push [] o = append-nil (encoding (tree o))
encodings_push (x ∷ os) o = ap (λ w. encoding (tree x) ++ w) (encodings_push os o) ∙ sym (append_assoc (encoding (tree x)) (encodings (trees os)) (encoding (tree o)))

-- none is left
pub trees_end : (n : ℕ) (os : List BerObject) → length os ≤ n → trees (drop n os) ≡ no_nodes
trees_end n os h = ap trees (drop_of_length-le os h)

and_false : (b : Bool) → (b && false) ≡ false
and_false true = refl
and_false false = refl

-- lists of two lengths have other trees
pub other_length : (xs ys : List BerObject) → length xs ≢ length ys → false ≡ same_nodes (trees xs) (trees ys)
other_length [] [] h = absurd (h refl)
other_length [] (y ∷ ys) h = refl
other_length (x ∷ xs) [] h = refl
other_length (x ∷ xs) (y ∷ ys) h =
    sym (ap (λ r. same_node (tree x) (tree y) && r) (sym (other_length xs ys (λ e. h (ap suc e)))) ∙ and_false (same_node (tree x) (tree y)))

abbrev pub NotOptional : BerObjectContent → Type 0
NotOptional x = (held : Option (Box BerObject)) → x ≡ Optional held → ⊥

abbrev pub NotTagged : BerObjectContent → Type 0
NotTagged x = (c : Class) (t : Tag) (b : Box BerObject) → x ≡ Tagged c t b → ⊥

pub not_held : (held : Held-BerObjectContent-Optional-0) → NotOptional (Optional' held) → ⊥
not_held None' f = f None refl
not_held (Some' b h x) f = f (Some _) refl

-- an object that is no optional or tagged one is written as an element (two cases, so that all are told apart)
pub plain_encoding : (h : Header) (x : BerObjectContent) → NotOptional x → NotTagged x
    → encoding (node_of h (content_tree x)) ≡ element (class_of h) (is_constructed h) (number_of h) (content_octets (content_tree x))
plain_encoding h (Optional' held) f g = absurd (not_held held f)
plain_encoding h (Tagged' c t b i x) f g = absurd (g c t _ refl)
plain_encoding h Null f g = refl
plain_encoding h _ f g = refl

pub encoding_length : (h : Header) (x : BerObjectContent) → NotOptional x → NotTagged x → let n = length (content_octets (content_tree x)) in
    length (encoding (node_of h (content_tree x))) ≡ length (identifier (class_of h) (is_constructed h) (number_of h)) + length (shortest_length n) + n
encoding_length h x f g =
    let w = content_octets (content_tree x) in
    let front = identifier (class_of h) (is_constructed h) (number_of h) in
    ap length (plain_encoding h x f g) ∙ length-append (front ++ shortest_length (length w)) w ∙ ap (λ m. m + length w) (length-append front (shortest_length (length w)))

-- the item in front of the place i
pub item_before : (os : List BerObject) (i : ℕ) (o : BerObject) → 0 < i → i ≤ length os → o ≡ get_or os (i - 1) o → trees (drop (i - 1) os) ≡ nodes (tree o) (trees (drop i os))
item_before os zero o some within e = absurd (omega arith)
item_before os (suc j) o some within e =
    let f : suc j - 1 + 1 ≡ suc j = omega arith in
    ap trees (drop_more os (suc j - 1) o (omega arith)) ∙ ap (λ n. nodes (tree (get_or os (suc j - 1) o)) (trees (drop n os))) f
    ∙ ap (λ x. nodes (tree x) (trees (drop (suc j) os))) (sym e)

-- what is left of a list is within it
left_within : (os : List BerObject) (i : ℕ) → length (encodings (trees (drop i os))) ≤ length (encodings (trees os))
left_within os zero = omega arith
left_within [] (suc i) = omega arith
left_within (o ∷ os) (suc i) = omega (arith, left_within os i, length-append (encoding (tree o)) (encodings (trees os)))

-- its octets have room in front of those behind it
pub item_room : (os : List BerObject) (i : ℕ) (o : BerObject) → 0 < i → i ≤ length os → o ≡ get_or os (i - 1) o
    → length (encoding (tree o)) + length (encodings (trees (drop i os))) ≤ length (encodings (trees os))
item_room os i o some within e =
    let w = ap length (ap encodings (item_before os i o some within e)) in
    omega (arith, w, left_within os (i - 1), length-append (encoding (tree o)) (encodings (trees (drop i os))))

pub every_sequence : (shape : _) (row : _) → Sequence' shape row ≡ Sequence (shown-the_row-BerObject-0 shape row)
every_sequence shape row =
    sym (roll-out-BerObjectContent (Sequence' shape row)) ∙ ap roll-BerObjectContent (outs-Sequence' shape row) ∙ rolls-Sequence (shown-the_row-BerObject-0 shape row)

pub every_set : (shape : _) (row : _) → Set' shape row ≡ Set (shown-the_row-BerObject-0 shape row)
every_set shape row =
    sym (roll-out-BerObjectContent (Set' shape row)) ∙ ap roll-BerObjectContent (outs-Set' shape row) ∙ rolls-Set (shown-the_row-BerObject-0 shape row)

-- what is no SEQUENCE has another tree than one
pub not_sequence : (x : BerObjectContent) (l : Nodes) → ((v : Vec BerObject Global) → x ≡ Sequence v → ⊥) → false ≡ same_content (sequence l) (content_tree x)
not_sequence (Sequence' shape row) l h = absurd (h (shown-the_row-BerObject-0 shape row) (every_sequence shape row))
not_sequence (Optional' None') l h = refl
not_sequence (Optional' (Some' b i x)) l h = refl
not_sequence _ l h = refl

pub not_set : (x : BerObjectContent) (l : Nodes) → ((v : Vec BerObject Global) → x ≡ Set v → ⊥) → false ≡ same_content (set l) (content_tree x)
not_set (Set' shape row) l h = absurd (h (shown-the_row-BerObject-0 shape row) (every_set shape row))
not_set (Optional' None') l h = refl
not_set (Optional' (Some' b i x)) l h = refl
not_set _ l h = refl

-- lists have the same tree where their items have
pub same_sequences : (x y : BerObjectContent) (v w : Vec BerObject Global) (xs ys : List BerObject) → x ≡ Sequence v → y ≡ Sequence w → xs ≡ v.items → ys ≡ w.items
    → same_nodes (trees xs) (trees ys) ≡ same_content (content_tree x) (content_tree y)
same_sequences x y v w xs ys e f g h = rw (e, f, g, h, sequence_tree v, sequence_tree w) refl

pub same_sets : (x y : BerObjectContent) (v w : Vec BerObject Global) (xs ys : List BerObject) → x ≡ Set v → y ≡ Set w → xs ≡ v.items → ys ≡ w.items
    → same_nodes (trees xs) (trees ys) ≡ same_content (content_tree x) (content_tree y)
same_sets x y v w xs ys e f g h = rw (e, f, g, h, set_tree v, set_tree w) refl

-- an object inside a tag, and one that is there
pub tagged_object_tree : (h : Header) (o x : BerObject) (t : Tag) (b : Box BerObject) → x.header ≡ h → x.content ≡ Tagged (class_of h) t b → t.0 ≡ number_of h → b.value ≡ o
    → tree x ≡ node_of h (tagged (class_of h) (number_of h) (tree o))
tagged_object_tree h o x t b p q n e = ap (λ h. node_of h (content_tree x.content)) p ∙ ap (λ c. node_of h (content_tree c)) q ∙ rw (n, e) refl

pub present_object_tree : (o x : BerObject) (b : Box BerObject) → x.header ≡ o.header → x.content ≡ Optional (Some b) → b.value ≡ o → tree x ≡ node_of o.header (present (tree o))
present_object_tree o x b p q e = ap (λ h. node_of h (content_tree x.content)) p ∙ ap (λ c. node_of o.header (content_tree c)) q ∙ rw e refl
