-- The items of an object.
use Rattle.std.specs.Prelude.{◌≡◌, ℕ, ◌<◌, Option, Some, None, List, [], ◌∷◌, length, slice_get, Result, IfOk}
use Rattle.std.specs.Borrow.{Bor}
use Rattle.std.specs.Option.{option_copied}
use Rattle.std.specs.Slice.Iter.{iter_rest}
use Rattle.std.specs.Vec.Iter.{into_iter_items}
use Rattle.std.specs.declared.vec.Vec.{Vec}
use Rattle.std.specs.declared.alloc.Global.{Global}
use Rattle.der_base.specs.declared.error.Error.{Error as BerError}
use Rattle.der_base.specs.declared.header.Class.{Class}
use Rattle.der_base.specs.declared.header.Tag.{Tag}
use Rattle.der_base.specs.declared.time.ASN1DateTime.{ASN1DateTime}
use Rattle.der_base.specs.Oids.{IsBorrowed}
use Rattle.der_base.specs.Parts.{AnswersPart, optional_part, tagged_part}
use Rattle.der_base.specs.Tree.{Node, Content, Nodes, time}
use Rattle.der_object.specs.declared.object.BerObject.{BerObject}
use Rattle.der_object.specs.declared.object.BerObjectContent.{BerObjectContent, items-the_row-BerObject}
use Rattle.der_object.specs.declared.object.BerObjectContent.{Held-BerObjectContent-Optional-0, None', Some'}
use Rattle.der_object.specs.declared.object.BerObjectContent.TheVariants.{OID, RelativeOID, Sequence', Set'}
use Rattle.der_object.specs.declared.object.BerObjectContent.TheVariants.{Optional', Tagged'}
use Rattle.der_object.specs.declared.iterators.BerObjectRefIterator.{BerObjectRefIterator}
use Rattle.der_object.specs.declared.iterators.BerObjectIntoIterator.{BerObjectIntoIterator}
use Rattle.der_object.specs.declared.iterators.Left.{Left}
use Rattle.der_object.specs.declared.iterators.Left.TheVariants.{Items, Itself, Nothing}
use Rattle.der_object.specs.View.{content_tree, tree, trees}

-- the items of a SEQUENCE or SET, in order; another content has none
abbrev pub items_of : BerObjectContent → List BerObject
items_of (Sequence' shape row) = items-the_row-BerObject _ row
items_of (Set' shape row) = items-the_row-BerObject _ row
items_of _ = []

-- The answer of `as_sequence` and `as_set`: the items, with the lengths and raw tags of their headers, or the error if
-- the content isn't such a list.
pub record AnswersItems (list_of : Content → Option Nodes) (x : BerObjectContent)
    (result : Result (Bor (Vec BerObject Global)) BerError) : Type 0 where
  pub part : AnswersPart (λ v. trees v.now.items) (list_of (content_tree x)) result
  pub items : IfOk result (λ v. v.now.items ≡ items_of x)

-- the object inside an optional content, if it is there
abbrev pub held_object : Held-BerObjectContent-Optional-0 → Option BerObject
held_object None' = None
held_object (Some' b h x) = Some (record { header = h; content = x })

-- the object inside an optional or tagged content
abbrev pub inner_object : BerObjectContent → Option BerObject
inner_object (Optional' held) = held_object held
inner_object (Tagged' c t b h x) = Some (record { header = h; content = x })
inner_object _ = None

-- the tree of an optional object
abbrev pub optional_tree : Option (Bor BerObject) → Option Node
optional_tree None = None
optional_tree (Some r) = Some (tree r.now)

-- The answer of `as_optional`: the object if it is there, with the lengths and raw tags of its headers, or the error if
-- the content isn't optional.
pub record AnswersOptional (x : BerObjectContent) (result : Result (Option (Bor BerObject)) BerError) : Type 0 where
  pub part : AnswersPart optional_tree (optional_part (content_tree x)) result
  pub object : IfOk result (λ r. option_copied r ≡ inner_object x)

-- The answer of `as_tagged`: the class and the number of the tag, and the object inside, or the error if the content
-- isn't tagged.
pub record AnswersTagged (x : BerObjectContent) (result : Result (Class × Tag × Bor BerObject) BerError) : Type 0 where
  pub part : AnswersPart (λ r. (r.0, r.1.0, tree r.2.now)) (tagged_part (content_tree x)) result
  pub object : IfOk result (λ r. Some r.2.now ≡ inner_object x)

-- the fields of a UTCTime or a GeneralizedTime (X.690 8.25)
abbrev pub time_part : Content → Option ASN1DateTime
time_part (time k t) = Some t
time_part _ = None

-- an identifier that owns its octets, so that a copy allocates
abbrev pub OwnsIdentifier : BerObjectContent → Type 0
OwnsIdentifier (OID x) = ¬ IsBorrowed x
OwnsIdentifier (RelativeOID x) = ¬ IsBorrowed x
OwnsIdentifier _ = ⊥

-- what `into_iter` gives, one after another: the items, or the object itself, once
abbrev pub moved_items : BerObject → List BerObject
moved_items o = by_content o o.content
  where
    by_content : BerObject → BerObjectContent → List BerObject
    by_content o (Sequence' shape row) = items-the_row-BerObject _ row
    by_content o (Set' shape row) = items-the_row-BerObject _ row
    by_content o _ = o ∷ []

-- what the iterators haven't given yet
abbrev pub items_left : BerObjectRefIterator → List BerObject
items_left it = iter_rest it.items

abbrev pub items_to_move : BerObjectIntoIterator → List BerObject
items_to_move it = of_left it.left
  where
    of_left : Left → List BerObject
    of_left (Items v) = into_iter_items v
    of_left (Itself o) = o ∷ []
    of_left Nothing = []

-- there is an item at the index i
abbrev pub HasItem : BerObject → ℕ → Type 0
HasItem o i = i < length (items_of o.content)

-- the item at the index i is this one
abbrev pub IsItem : BerObject → ℕ → BerObject → Type 0
IsItem o i item = slice_get (items_of o.content) i ≡ Some item
