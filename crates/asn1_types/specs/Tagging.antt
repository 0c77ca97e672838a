-- How tags are applied (X.680 31.2), and when they are made (25.3, 25.7, 27.4, 29.3).
use Rattle.std.specs.Prelude.{◌≡◌, ℕ, Bool, true, false, not, ◌&&◌, if◌then◌else◌}
use Rattle.std.specs.Prelude.{Option, Some, None, List, [], ◌∷◌, slice_get}
use Rattle.std.specs.List.{list_all}
use Rattle.asn1_modules.specs.declared.syntax.TagDefault.{TagDefault}
use Rattle.asn1_modules.specs.declared.syntax.TagDefault.TheVariants as Module
use Rattle.asn1_modules.specs.declared.syntax.Tagging.{Tagging}
use Rattle.asn1_modules.specs.declared.syntax.Tagging.TheVariants.{Default, Explicit, Implicit}
use Rattle.asn1_types.specs.declared.item.Item.{Item}
use Rattle.asn1_types.specs.declared.item.Shape.{Shape}
use Rattle.asn1_types.specs.declared.item.Shape.TheVariants.{Holder, Items, OpenHolder, Plain, Reference, Tagged as HasTag}
use Rattle.asn1_types.specs.declared.lists.Member.{Member}
use Rattle.asn1_types.specs.declared.tags.Base.{Base}
use Rattle.asn1_types.specs.declared.tags.PassedTags.{PassedTags}
use Rattle.der_base.specs.declared.header.Class.{Class}
use Rattle.der_base.specs.declared.header.Class.TheVariants.{Universal}
use Rattle.der_schema.specs.Meaning.{Expected, any_elements, components, each, opened}
use Rattle.der_schema.specs.declared.schema.Component.{Component}
use Rattle.der_schema.specs.declared.schema.Form.{Form}
use Rattle.der_schema.specs.declared.schema.Form.TheVariants.{Constructed, Either}
use Rattle.der_schema.specs.declared.schema.Inside.{Inside}
use Rattle.der_schema.specs.declared.schema.Inside.TheVariants.{Chosen as chosen_elements}
use Rattle.der_schema.specs.declared.schema.Inside.TheOpen.{Any, Tagged, Choice, Selected, Numbered}
use Rattle.der_schema.specs.declared.schema.Type.{«Type», out-Type}
use Rattle.der_schema.specs.declared.schema.Type.TheVariants.{Any as AnyElement, Tagged as WithTag}

-- whether a tag is explicit whatever it is the tag of (31.2.7 a, b)
abbrev pub is_said_explicit : Tagging → TagDefault → Bool
is_said_explicit Explicit d = true
is_said_explicit Implicit d = false
is_said_explicit Default Module.Explicit = true
is_said_explicit Default Module.Implicit = false
is_said_explicit Default Module.Automatic = false

-- whether a type has a tag in the text
abbrev pub is_tagged : Option Item → Bool
is_tagged None = false
is_tagged (Some it) = elim it.shape [ HasTag c n e ↦ true | _ ↦ false ]

-- whether no member has a tag in the text; the types that replace COMPONENTS OF aren't asked (25.4)
abbrev pub are_untagged : List Item → List Member → Bool
are_untagged items ms = list_all (λ m. not (is_tagged (slice_get items m.item))) ms

-- whether the members of a list have automatic tags: its module says so, and none has a tag (25.3, 25.7, 27.4, 29.3)
abbrev pub has_automatic_tags : Option Item → Bool → Bool
has_automatic_tags None untagged = false
has_automatic_tags (Some it) untagged = it.automatic && untagged

-- the tags that are passed, with a further one, which is that of the item with this index
abbrev pub passed_tags : Option PassedTags → Class → ℕ → ℕ → PassedTags
passed_tags None c n i = record { class = c; number = n; innermost = i }
passed_tags (Some t) c n i = record t { innermost = i }

-- what an item at the end leads to: a reference to its type (16.1), an implicit tag to the type inside it (31.2)
abbrev pub next_base : Option Item → Base → Option Base
next_base None b = None
next_base (Some it) b =
    elim it.shape [
      | Reference ↦ Some (record b { end = it.inner })
      | HasTag c n e ↦ if e then None else Some (record { tags = Some (passed_tags b.tags c n b.end); end = it.inner })
      | _ ↦ None
    ]

abbrev pub base_at : ℕ → Base
base_at i = record { tags = None; end = i }

-- references and implicit tags lead from here to there, which is neither
pub data LeadsTo (items : List Item) : Base → Base → Type 0 where
  ends : (b : Base) → next_base (slice_get items b.end) b ≡ None → LeadsTo items b b
  goes_on : (b c d : Base) → next_base (slice_get items b.end) b ≡ Some c → LeadsTo items c d → LeadsTo items b d

abbrev pub type_at : Option «Type» → «Type»
type_at None = AnyElement
type_at (Some k) = k

-- a type with this tag and form, inside which this is expected if an element is constructed or not
pub record Holds (c : Class) (n : ℕ) (f : Form) (constructed : Bool) (e : Expected) (k : «Type») : Type 0 where
  pub inside : Inside
  pub is : k ≡ WithTag c n f inside
  pub opens : opened inside constructed [] ≡ e

-- The type of an item by itself, unless it is a list, with the component of the type inside it. A SEQUENCE OF or SET OF
-- has any number of them (26, 28), a string or an explicit tag has one (X.682 11; X.690 8.14.2).
abbrev pub IsOwnType : Shape → Component → «Type» → Type 0
IsOwnType (Plain t) c k = k ≡ WithTag Universal t.number t.form any_elements
IsOwnType (Items n) c k = Holds Universal n Constructed true (each c) k
IsOwnType (Holder n) c k = Holds Universal n Either false (components (c ∷ [])) k
IsOwnType (OpenHolder n) c k = k ≡ WithTag Universal n Either chosen_elements
IsOwnType (HasTag t n e) c k = Holds t n Constructed true (components (c ∷ [])) k
IsOwnType _ c k = k ≡ AnyElement

-- a type with an implicit tag, which takes the place of its own (X.690 8.14.3)
abbrev pub retagged : PassedTags → «Type» → «Type»
retagged t k =
    elim (out-Type k) [
      | Any ↦ k
      | Tagged c n f i ↦ WithTag t.class t.number f i
      | Choice w ↦ k
      | Selected ↦ k
      | Numbered n ↦ k
    ]

-- A type with implicit tags, the outermost of which is its tag. A CHOICE and any element have no tag, so the innermost
-- one is explicit (31.2.7 c): `explicit` is the type that it then makes.
abbrev pub with_tags : PassedTags → «Type» → «Type» → «Type»
with_tags t k explicit =
    elim (out-Type k) [
      | Any ↦ retagged t explicit
      | Tagged c n f i ↦ retagged t k
      | Choice w ↦ retagged t explicit
      | Selected ↦ retagged t explicit
      | Numbered n ↦ retagged t explicit
    ]

abbrev pub tags_on : List «Type» → Option PassedTags → «Type» → «Type»
tags_on own None k = k
tags_on own (Some t) k = with_tags t k (type_at (slice_get own t.innermost))

-- the type that references and implicit tags lead to, with these tags, from the types of items by themselves
abbrev pub tagged_type : List «Type» → Base → «Type»
tagged_type own b = tags_on own b.tags (type_at (slice_get own b.end))

-- the type of the item with an index
pub record IsTypeAt (items : List Item) (own : List «Type») (index : ℕ) (k : «Type») : Type 0 where
  pub base : Base
  pub leads : LeadsTo items (base_at index) base
  pub is : k ≡ tagged_type own base
