-- The names of the elements of an input, one after another, and the open contents.
use Rattle.std.specs.Prelude.{◌≡◌, ℕ, suc, length, Option, Some, None, List, [], ◌∷◌, ◌++◌, take, slice_get}
use Rattle.der_schema.specs.Meaning.{Encoding, Label, Passed, Root, State, components, past}

-- Elements, one after another: the first, those inside it, and those after it.
pub data Forest : Type 0 where
  no_elements : Forest
  one_more : Encoding → Forest → Forest → Forest

-- the names of the elements of a content where s is expected, in preorder; None for an element that isn't in the schema
abbrev pub names : State → Forest → List (Option Label)
names s no_elements = []
names s (one_more x inside after) =
    (past s x).name ∷ names (past s x).inside inside ++ names (past s x).after after

-- what is expected in an input of a type
abbrev pub of_input : Root → State
of_input sc = record {
  expected = components sc.components;
  around = record { selected = []; types = sc.types };
}

-- an element with this many elements around it
pub record Seen : Type 0 where
  pub depth : ℕ
  pub element : Encoding

abbrev pub seen : ℕ → Encoding → Seen
seen k x = record { depth = k; element = x }

-- elements in preorder, with k around them
abbrev pub preorder : ℕ → Forest → List Seen
preorder k no_elements = []
preorder k (one_more x inside after) = seen k x ∷ preorder (suc k) inside ++ preorder k after

-- the contents that are open after an element, the outermost first
abbrev pub opened_after : List State → ℕ → Passed → List State
opened_after ss k p = take k ss ++ p.after ∷ p.inside ∷ []

abbrev pub opened_at : Option State → List State → Seen → List State
opened_at None ss v = ss
opened_at (Some s) ss v = opened_after ss v.depth (past s v.element)

abbrev pub name_at : Option State → Encoding → Option Label
name_at None x = None
name_at (Some s) x = (past s x).name

abbrev pub opened_past : List State → Seen → List State
opened_past ss v = opened_at (slice_get ss v.depth) ss v

abbrev pub name_in : List State → Seen → Option Label
name_in ss v = name_at (slice_get ss v.depth) v.element

abbrev pub opened_by : List State → List Seen → List State
opened_by ss [] = ss
opened_by ss (v ∷ vs) = opened_by (opened_past ss v) vs

-- the name of an element after others, in an input of a type
abbrev pub name_after : Root → List Seen → Seen → Option Label
name_after sc vs v = name_in (opened_by (of_input sc ∷ []) vs) v

-- Law: a namer gives each element in preorder the name that it has in the tree.
abbrev pub NamesInPreorder : Type 0
NamesInPreorder = (sc : Root) (f : Forest) (vs us : List Seen) (v : Seen) → preorder 0 f ≡ vs ++ v ∷ us
    → slice_get (names (of_input sc) f) (length vs) ≡ Some (name_after sc vs v)
