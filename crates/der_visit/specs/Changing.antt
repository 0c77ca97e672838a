-- What a visitor does that may change what it visits, by relations of its own, as in Visiting, which speak of what is
-- visited before and after.
use Rattle.std.specs.Prelude.{◌≡◌, ℕ, Bool, true, false, ⊤}
use Rattle.der_base.specs.declared.header.Class.{Class}
use Rattle.der_base.specs.Listing.{deeper}
use Rattle.der_base.specs.Tree.{Node, node, Content, end_of_content, boolean, integer, bit_string, string, null}
use Rattle.der_base.specs.Tree.{enumerated, object_identifier, relative_oid, time, sequence, set, absent, present}
use Rattle.der_base.specs.Tree.{tagged, unknown, Nodes, no_nodes, nodes}

-- A function with an empty default body takes the visitor from s to t and x to y by the visitor's relation, or it
-- changes neither.
pub data QuietlyChanges {S X : Type 0} (R : S → X → ℕ → S → X → Type 0)
    (s : S) (x : X) (n : ℕ) (t : S) (y : X) : Type 0 where
  quiet_change : t ≡ s → y ≡ x → QuietlyChanges R s x n t y
  stepped_change : R s x n t y → QuietlyChanges R s x n t y

-- SEQUENCE and SET have items
abbrev pub has_items : Content → Bool
has_items (sequence l) = true
has_items (set l) = true
has_items _ = false

-- two contents of one type
abbrev pub HaveOneType : Content → Content → Type 0
HaveOneType end_of_content end_of_content = ⊤
HaveOneType (boolean b) (boolean c) = ⊤
HaveOneType (integer v) (integer w) = ⊤
HaveOneType (bit_string u v) (bit_string q w) = ⊤
HaveOneType (string k v) (string l w) = k ≡ l
HaveOneType null null = ⊤
HaveOneType (enumerated m) (enumerated n) = ⊤
HaveOneType (object_identifier q v) (object_identifier r w) = ⊤
HaveOneType (relative_oid q v) (relative_oid r w) = ⊤
HaveOneType (time k t) (time l u) = k ≡ l
HaveOneType (sequence l) (sequence k) = ⊤
HaveOneType (set l) (set k) = ⊤
HaveOneType absent absent = ⊤
HaveOneType absent (present o) = ⊤
HaveOneType (present o) absent = ⊤
HaveOneType (present o) (present q) = ⊤
HaveOneType (tagged c t o) (tagged d u q) = ⊤
HaveOneType (unknown c p t v) (unknown d q u w) = ⊤
HaveOneType _ _ = ⊥

-- The step of a `HandlesMut` at one object: that of the object, and then that of the content that is there now, which
-- keeps its type.
pub data ChangesNode {S : Type 0} (object_step : S → Node → ℕ → S → Node → Type 0)
    (content_step : S → Content → ℕ → S → Content → Type 0) : S → Node → ℕ → S → Node → Type 0 where
  at_node : {s m t : S} {o : Node} {n : ℕ} {c : Class} {p : Bool} {k : ℕ} {x y : Content}
      → object_step s o n m (node c p k x) → HaveOneType x y → content_step m x n t y
      → ChangesNode object_step content_step s o n t (node c p k y)

module _ {S : Type 0} (R : S → Node → ℕ → S → Node → Type 0) where
  mutual
    -- Takes a visitor and an object through a walk by R: a step at the object, and then the items that are there now.
    pub data ChangesObject : S → Node → ℕ → S → Node → Type 0 where
      at_object : {s m t : S} {o : Node} {n : ℕ} {c : Class} {p : Bool} {k : ℕ} {x y : Content}
          → R s o n m (node c p k x) → ChangesInside m x n t y → ChangesObject s o n t (node c p k y)

    -- only SEQUENCE and SET have items
    pub data ChangesInside : S → Content → ℕ → S → Content → Type 0 where
      at_leaf : {s : S} {n : ℕ} {x : Content} → has_items x ≡ false → ChangesInside s x n s x
      at_sequence : {s t : S} {n : ℕ} {l i : Nodes} → ChangesItems s l (deeper n) t i
          → ChangesInside s (sequence l) n t (sequence i)
      at_set : {s t : S} {n : ℕ} {l i : Nodes} → ChangesItems s l (deeper n) t i → ChangesInside s (set l) n t (set i)

    -- one item after another, each in its place
    pub data ChangesItems : S → Nodes → ℕ → S → Nodes → Type 0 where
      at_end : {s : S} {n : ℕ} → ChangesItems s no_nodes n s no_nodes
      at_item : {s m t : S} {n : ℕ} {o q : Node} {l k : Nodes} → ChangesObject s o n m q → ChangesItems m l n t k
          → ChangesItems s (nodes o l) n t (nodes q k)
