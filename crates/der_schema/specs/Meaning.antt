-- What a schema tells about an element: the component that it matches, and what is expected inside it and after it.
use Rattle.std.specs.Prelude.{ℕ, Bool, true, false, not, ◌&&◌, ◌==◌, nat_lt, if◌then◌else◌}
use Rattle.std.specs.Prelude.{Option, Some, None, List, [], ◌∷◌, map, take, slice_get}
use Rattle.std.specs.Borrow.{Bor}
use Rattle.der_base.specs.TreeEquality.{same_class, same_octets}
use Rattle.der_base.specs.declared.header.Class.{Class}
use Rattle.der_schema.specs.declared.level.Content.{Content}
use Rattle.der_schema.specs.declared.level.Content.TheVariants.{NoElement, Anything, Ordered, Unordered, Repeated}
use Rattle.der_schema.specs.declared.level.Level.{Level}
use Rattle.der_schema.specs.declared.matching.Called.{Called}
use Rattle.der_schema.specs.declared.matching.Found.{Found}
use Rattle.der_schema.specs.declared.schema.Component.{Component}
use Rattle.der_schema.specs.declared.schema.Form.{Form}
use Rattle.der_schema.specs.declared.schema.Form.TheVariants.{Primitive, Constructed, Either}
use Rattle.der_schema.specs.declared.schema.Inside.{Inside, out-Inside}
use Rattle.der_schema.specs.declared.schema.Inside.TheOpen.{Free, Nothing, Components, Members, Each}
use Rattle.der_schema.specs.declared.schema.Inside.TheOpen.{Holds, Chosen, Selects, Begins}
use Rattle.der_schema.specs.declared.schema.Inside.TheOpen.{Any, Tagged, Choice, Selected, Numbered}
use Rattle.der_schema.specs.declared.schema.Inside.TheVariants.{Free as AnyElements}
use Rattle.der_schema.specs.declared.schema.Schema.{Schema}
use Rattle.der_schema.specs.declared.schema.Secrecy.{Secrecy}
use Rattle.der_schema.specs.declared.schema.Secrecy.TheVariants.{Public, Secret, SecretUnread}
use Rattle.der_schema.specs.declared.schema.Selection.{Selection, out-Selection}
use Rattle.der_schema.specs.declared.schema.Type.{out-Type}
use Rattle.der_schema.specs.declared.words.Words.{Words}

-- An element: its identifier (X.690 8.1.2) and its content octets. With an indefinite length, these are all octets
-- after the header.
pub record Encoding : Type 0 where
  pub class : Class
  pub constructed : Bool
  pub number : ℕ
  pub content : List ℕ

-- what a schema expects of the elements of a content, from an offset on
pub data Expected : Type 0 where
  free : Expected
  nothing : Expected
  components : List Component → Expected
  members : List Component → Expected
  each : Component → Expected

abbrev pub expected_of : Content → Expected
expected_of NoElement = nothing
expected_of Anything = free
expected_of (Ordered w) = components w.now
expected_of (Unordered w) = members w.now
expected_of (Repeated w) = each w.now

-- the types that have an index, in order
abbrev pub all_types : List (Bor Component) → List Component
all_types ts = map (λ w. w.now) ts

-- what an identifier selects; no component if it selects nothing
abbrev pub components_of : Selection → List Component
components_of s = (out-Selection s).components.now

-- what the matching of elements needs besides their components: what the last identifier selects, and the types that
-- have an index
pub record Around : Type 0 where
  pub selected : List Component
  pub types : List Component

-- what is expected in a content
pub record State : Type 0 where
  pub expected : Expected
  pub around : Around

abbrev pub state_of : List Component → Level → State
state_of ts l = record {
  expected = expected_of l.expected;
  around = record { selected = components_of l.selected.now; types = ts };
}

-- what is expected of the elements of an input, and the types that have an index
pub record Root : Type 0 where
  pub components : List Component
  pub types : List Component

abbrev pub root_of : Schema → Root
root_of sc = record { components = sc.components.now; types = all_types sc.types.now }

-- the inside of an element that no type describes
abbrev pub any_elements : Inside
any_elements = AnyElements

-- a name, how secret an element with this name is, and the words for it
pub record Marked : Type 0 where
  pub name : List ℕ
  pub secrecy : Secrecy
  pub words : Option Words

-- the words that are referred to
abbrev pub words_in : Option (Bor Words) → Option Words
words_in None = None
words_in (Some w) = Some w.now

abbrev pub mark_of : Component → Marked
mark_of c = record { name = c.name.now; secrecy = c.secrecy; words = words_in c.words }

abbrev pub nameless : Marked
nameless = record { name = []; secrecy = Public; words = None }

abbrev pub marked_of : Called → Marked
marked_of c = record { name = c.named.now.name.now; secrecy = c.marked.now.secrecy; words = words_in c.words }

-- an element that is in a schema: its name, how secret it is, and what is inside
pub record Field : Type 0 where
  pub marked : Marked
  pub inside : Inside

abbrev pub field : Marked → Inside → Field
field m i = record { marked = m; inside = i }

abbrev pub field_of : Option Found → Option Field
field_of None = None
field_of (Some f) = Some (field (marked_of f.called) f.inside.now)

abbrev pub or_else : {A : Type 0} → Option A → Option A → Option A
or_else (Some a) _ = Some a
or_else None o = o

-- an element that is primitive or constructed may have this form (X.690 8.1.2.5)
abbrev pub fits : Form → Bool → Bool
fits Primitive constructed = not constructed
fits Constructed constructed = constructed
fits Either constructed = true

abbrev pub has_tag : Class → ℕ → Form → Encoding → Bool
has_tag c n f x = same_class c x.class && ((n == x.number) && fits f x.constructed)

abbrev pub tagged_field : Class → ℕ → Form → Encoding → Marked → Inside → Option Field
tagged_field c n f x m i = if has_tag c n f x then Some (field m i) else None

-- the first name, or the second if the first is empty
abbrev pub name_or : List ℕ → List ℕ → List ℕ
name_or [] other = other
name_or (b ∷ bs) _ = b ∷ bs

-- the more secret of two
abbrev pub secret_or : Secrecy → Secrecy → Secrecy
secret_or Public s = s
secret_or SecretUnread Public = SecretUnread
secret_or SecretUnread SecretUnread = SecretUnread
secret_or SecretUnread Secret = Secret
secret_or Secret s = Secret

abbrev pub marked_or : Marked → Marked → Marked
marked_or m other = record {
  name = name_or m.name other.name;
  secrecy = secret_or m.secrecy other.secrecy;
  words = or_else m.words other.words;
}

-- an element as an alternative of a choice (X.680 29)
abbrev pub as_alternative : Component → Encoding → Marked → Option Field
as_alternative c x choice =
    elim (out-Type c.kind) [
      | Any ↦ None
      | Tagged k n f i ↦ tagged_field k n f x (marked_or (mark_of c) choice) i
      | Choice w ↦ None
      | Selected ↦ None
      | Numbered n ↦ None
    ]

abbrev pub alternative_in : List Component → Encoding → Marked → Option Field
alternative_in [] x choice = None
alternative_in (c ∷ cs) x choice = or_else (as_alternative c x choice) (alternative_in cs x choice)

-- an element as a component that refers to nothing else, with this name and mark
abbrev pub as_plain : Component → Encoding → Marked → Option Field
as_plain c x m =
    elim (out-Type c.kind) [
      | Any ↦ Some (field m any_elements)
      | Tagged k n f i ↦ tagged_field k n f x m i
      | Choice w ↦ alternative_in w.now x m
      | Selected ↦ None
      | Numbered n ↦ None
    ]

-- an element as a type with an index, with this name or else the name of the type
abbrev pub as_numbered : Option Component → Encoding → Marked → Option Field
as_numbered None x m = None
as_numbered (Some c) x m = as_plain c x (marked_or m (mark_of c))

-- an element as a component that may refer to a type by index, with this name and mark
abbrev pub as_referred : Component → List Component → Encoding → Marked → Option Field
as_referred c ts x m =
    elim (out-Type c.kind) [
      | Any ↦ as_plain c x m
      | Tagged k n f i ↦ as_plain c x m
      | Choice w ↦ as_plain c x m
      | Selected ↦ as_plain c x m
      | Numbered n ↦ as_numbered (slice_get ts n) x m
    ]

-- an element as the selected type, or as any element if nothing is selected
abbrev pub as_selected_by : List Component → List Component → Encoding → Marked → Option Field
as_selected_by [] ts x m = Some (field m any_elements)
as_selected_by (c ∷ _) ts x m = as_referred c ts x (marked_or (mark_of c) m)

abbrev pub as_selected : Around → Encoding → Marked → Option Field
as_selected a x m = as_selected_by a.selected a.types x m

-- an element as a component, if it matches
abbrev pub found_in : Component → Encoding → Around → Option Field
found_in c x a =
    elim (out-Type c.kind) [
      | Any ↦ as_referred c a.types x (mark_of c)
      | Tagged k n f i ↦ as_referred c a.types x (mark_of c)
      | Choice w ↦ as_referred c a.types x (mark_of c)
      | Selected ↦ as_selected a x (mark_of c)
      | Numbered n ↦ as_referred c a.types x (mark_of c)
    ]

abbrev pub next_or : Option Field → Bool → List Component → Option (Field × List Component)
    → Option (Field × List Component)
next_or (Some f) _ cs _ = Some (f, cs)
next_or None true _ later = later
next_or None false _ _ = None

-- the first component that an element matches, and the components after it; those before it must be optional
abbrev pub next_in : List Component → Encoding → Around → Option (Field × List Component)
next_in [] x a = None
next_in (c ∷ cs) x a = next_or (found_in c x a) c.optional cs (next_in cs x a)

-- the first component that an element matches, in any order
abbrev pub member_in : List Component → Encoding → Around → Option Field
member_in [] x a = None
member_in (c ∷ cs) x a = or_else (found_in c x a) (member_in cs x a)

-- what an identifier selects
abbrev pub selected_by : List Selection → List ℕ → List Component
selected_by [] o = []
selected_by (s ∷ ss) o = if same_octets (out-Selection s).identifier.now o then components_of s else selected_by ss o

-- the content octets of the first element in these octets, if its header has two octets (X.690 8.1.2.2, 8.1.3.4)
abbrev pub first_content : List ℕ → List ℕ
first_content [] = []
first_content (t ∷ []) = []
first_content (t ∷ n ∷ rest) = if nat_lt n 128 then take n rest else []

-- what is selected after an element
abbrev pub selected_past : Inside → Encoding → List Component → List Component
selected_past i x cs =
    elim (out-Inside i) [
      | Free ↦ cs
      | Nothing ↦ cs
      | Components w ↦ cs
      | Members w ↦ cs
      | Each w ↦ cs
      | Holds w ↦ cs
      | Chosen ↦ cs
      | Selects w ↦ selected_by w.now x.content
      | Begins w z ↦ selected_by z.now (first_content x.content)
    ]

-- the selected component in a string, or any elements if nothing is selected
abbrev pub chosen_in : List Component → Expected
chosen_in [] = free
chosen_in (c ∷ cs) = components (c ∷ cs)

-- what is expected inside an element that is primitive or constructed
abbrev pub opened : Inside → Bool → List Component → Expected
opened i p cs =
    elim (out-Inside i) [
      | Free ↦ free
      | Nothing ↦ nothing
      | Components w ↦ components w.now
      | Members w ↦ members w.now
      | Each w ↦ each w.now
      | Holds w ↦ if p then free else components w.now
      | Chosen ↦ if p then free else chosen_in cs
      | Selects w ↦ nothing
      | Begins w z ↦ components w.now
    ]

-- the name of an element, whether it is an item, how secret it is, and the words for it
pub record Label : Type 0 where
  pub text : List ℕ
  pub is_item : Bool
  pub secrecy : Secrecy
  pub words : Option Words

abbrev pub label : Bool → Marked → Label
label item m = record { text = m.name; is_item = item; secrecy = m.secrecy; words = m.words }

-- whether the index tells the elements apart: they are those of a list, or any
abbrev pub has_items : Expected → Bool
has_items free = true
has_items nothing = false
has_items (components _) = false
has_items (members _) = false
has_items (each _) = true

-- what a schema tells about an element: its name and mark, and what is expected inside it and after it
pub record Passed : Type 0 where
  pub name : Option Label
  pub inside : State
  pub after : State

-- an element with this field, after which this is expected; what is selected around it is selected inside it
abbrev pub passed : State → Encoding → Field → Expected → Passed
passed s x f e = record {
  name = Some (label (has_items s.expected) f.marked);
  inside = record { expected = opened f.inside x.constructed s.around.selected; around = s.around };
  after = record {
    expected = e;
    around = record { selected = selected_past f.inside x s.around.selected; types = s.around.types };
  };
}

-- an element without a name; no element inside it or after it has one
abbrev pub unnamed : State → Passed
unnamed s = record {
  name = None;
  inside = record { expected = nothing; around = s.around };
  after = record { expected = nothing; around = s.around };
}

abbrev pub with_rest : Option (Field × List Component) → Option (Field × Expected)
with_rest None = None
with_rest (Some p) = Some (p.0, components p.1)

abbrev pub with_same : Option Field → Expected → Option (Field × Expected)
with_same None e = None
with_same (Some f) e = Some (f, e)

-- the field of the next element in a content, and what is expected after it
abbrev pub place_in : Expected → Encoding → Around → Option (Field × Expected)
place_in free x a = Some (field nameless any_elements, free)
place_in nothing x a = None
place_in (components cs) x a = with_rest (next_in cs x a)
place_in (members cs) x a = with_same (member_in cs x a) (members cs)
place_in (each c) x a = with_same (found_in c x a) (each c)

abbrev pub passed_or : State → Encoding → Option (Field × Expected) → Passed
passed_or s x (Some p) = passed s x p.0 p.1
passed_or s x None = unnamed s

-- what a schema tells about the next element in a content
abbrev pub past : State → Encoding → Passed
past s x = passed_or s x (place_in s.expected x s.around)
