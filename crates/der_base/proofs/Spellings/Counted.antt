-- How many objects a tree has, from how many its parts have.
use Rattle.std.proofs.Common.{◌≡◌, ℕ, ◌+◌, Bool, List, length, refl, arith, length-append}
use Rattle.der_base.specs.declared.header.Class.{Class}
use Rattle.der_base.specs.Count.{one_more, some_more}
use Rattle.der_base.specs.Leaf.{IsLeafContent}
use Rattle.der_base.specs.Listing.{deeper, listing, content_listing, list_listing, object_count, content_count, item_count}
use Rattle.der_base.specs.Tree.{Node, node, Content, sequence, set, Nodes, no_nodes, nodes}

-- the depth at which a tree stands doesn't matter
mutual
  listing_length : (o : Node) (m n : ℕ) → length (listing o m) ≡ length (listing o n)
  listing_length (node c p t x) m n = omega (arith, content_length x m n)

  content_length : (x : Content) (m n : ℕ) → length (content_listing x m) ≡ length (content_listing x n)
  content_length (sequence l) m n = list_length l (deeper m) (deeper n)
  content_length (set l) m n = list_length l (deeper m) (deeper n)
  content_length _ m n = refl

  list_length : (l : Nodes) (m n : ℕ) → length (list_listing l m) ≡ length (list_listing l n)
  list_length no_nodes m n = refl
  list_length (nodes o l) m n =
      omega (arith, listing_length o m n, list_length l m n, length-append (listing o m) (list_listing l m), length-append (listing o n) (list_listing l n))

-- an object is one more than its content
pub object_counted : (c : Class) (p : Bool) (t : ℕ) (x : Content) → object_count (node c p t x) ≡ 1 + content_count x
object_counted c p t x = omega arith

pub sequence_counted : (l : Nodes) → content_count (sequence l) ≡ item_count l
sequence_counted l = list_length l (deeper 0) 0

pub set_counted : (l : Nodes) → content_count (set l) ≡ item_count l
set_counted l = list_length l (deeper 0) 0

pub leaf_counted : (p : Bool) (t : ℕ) (w : List ℕ) (x : Content) → IsLeafContent p t w x → content_count x ≡ 0
leaf_counted p t w (sequence l) k = absurd k
leaf_counted p t w (set l) k = absurd k
leaf_counted p t w _ k = refl

pub items_counted : (o : Node) (l : Nodes) → item_count (nodes o l) ≡ object_count o + item_count l
items_counted o l = length-append (listing o 0) (list_listing l 0)

-- counts that were raised one after another
pub one_then_some : (k n : ℕ) → some_more k (one_more n) ≡ some_more (1 + k) n
one_then_some k n = omega arith

pub some_then_some : (k m n : ℕ) → some_more m (some_more k n) ≡ some_more (k + m) n
some_then_some k m n = omega arith
