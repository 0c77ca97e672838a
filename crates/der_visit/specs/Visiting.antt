-- What a visitor does, by relations of its own: `step` of a `Walk`, and of a `Handles` or a `Visit` `object_step` of
-- the function that is called at each object and `content_step` of the function of the content's type.
use Rattle.std.specs.Prelude.{◌≡◌, ℕ, Option, Some, None, List, [], ◌∷◌}
use Rattle.std.specs.Global.{Box}
use Rattle.der_base.specs.declared.any.Any.{Any}
use Rattle.der_base.specs.declared.oid.Oid.{Oid}
use Rattle.der_base.specs.Header.{class_of, is_constructed, number_of}
use Rattle.der_base.specs.Oids.{octets_of, is_relative_of}
use Rattle.der_base.specs.Tree.{Node, node, Content, object_identifier, relative_oid, absent, present, unknown}
use Rattle.der_object.specs.declared.object.BerObject.{BerObject}
use Rattle.der_object.specs.View.{tree}

-- Takes a visitor through a listing, whose entries are an object and its depth: at each entry, in their order, by one
-- step of R, and by nothing else.
pub data TakenThrough {S : Type 0} (R : S → Node → ℕ → S → Type 0) : List (Node × ℕ) → S → S → Type 0 where
  through_none : {s : S} → TakenThrough R [] s s
  through_entry : {o : Node} {n : ℕ} {rest : List (Node × ℕ)} {s m t : S} → R s o n m → TakenThrough R rest m t
      → TakenThrough R ((o, n) ∷ rest) s t

-- A function with an empty default body takes a visitor from s to t at x, at depth n: by the visitor's relation, or
-- not at all.
pub data Quietly {S X : Type 0} (R : S → X → ℕ → S → Type 0) (s : S) (x : X) (n : ℕ) (t : S) : Type 0 where
  quiet : t ≡ s → Quietly R s x n t
  stepped : R s x n t → Quietly R s x n t

abbrev pub content_of : Node → Content
content_of (node c p t x) = x

-- The step of a `Handles` at one object: that of the object, and then that of its content.
pub record MeetsObject {S : Type 0} (object_step : S → Node → ℕ → S → Type 0)
    (content_step : S → Content → ℕ → S → Type 0) (s : S) (o : Node) (n : ℕ) (t : S) : Type 0 where
  pub between : S
  pub object : object_step s o n between
  pub content : content_step between (content_of o) n t

-- the contents of an OBJECT IDENTIFIER and of a RELATIVE-OID
abbrev pub oid_content : Oid → Content
oid_content x = object_identifier (is_relative_of x) (octets_of x)

abbrev pub relative_oid_content : Oid → Content
relative_oid_content x = relative_oid (is_relative_of x) (octets_of x)

-- the content of an object that may be absent
abbrev pub optional_content : Option BerObject → Content
optional_content None = absent
optional_content (Some o) = present (tree o)

abbrev pub boxed_content : Option (Box BerObject) → Content
boxed_content None = absent
boxed_content (Some b) = present (tree b.value)

-- the content of an element of another class or type
abbrev pub unknown_content : Any → Content
unknown_content a = unknown (class_of a.header) (is_constructed a.header) (number_of a.header) a.bytes.now
