-- The type of an input.
use Rattle.std.specs.Prelude.{◌≡◌, ℕ, true, Option, MatchOption, List, [], ◌∷◌, ◌++◌, map, slice_get}
use Rattle.std.specs.Char.{to_ascii_lowercase}
use Rattle.std.specs.List.{All, list_all}
use Rattle.std.specs.Option.{is_some, option_to_list}
use Rattle.der_base.specs.declared.rules.Rules.{Rules}
use Rattle.der_elements.specs.Visits.{Extras, Visited, Visits}
use Rattle.der_schema.specs.declared.known.KnownType.{KnownType}
use Rattle.der_schema.specs.declared.schema.Component.{Component}
use Rattle.der_schema.specs.declared.schema.Inside.TheOpen.{Any, Tagged, Choice, Selected, Numbered}
use Rattle.der_schema.specs.declared.schema.Schema.{Schema}
use Rattle.der_schema.specs.declared.schema.Type.{«Type», out-Type}
use Rattle.der_schema.specs.Encodings.{all_seen}
use Rattle.der_schema.specs.Ends.{is_whole}
use Rattle.der_schema.specs.Meaning.{Root, root_of}
use Rattle.der_schema.specs.Opened.{Forest, names, of_input, preorder}
use Rattle.der_schema.specs.Signs.{contents_in, has_sign}

-- a walk enters strings, and by BER visits values that break their type
abbrev pub all_extras : Extras
all_extras = record { enters_strings = true; keeps_values = true }

-- the elements of an input by these rules, also those inside strings, are this tree
pub record HasTree (r : Rules) (i : List ℕ) (f : Forest) : Type 0 where
  pub visited : List Visited
  pub visits : Visits all_extras r 101 0 0 i visited
  pub same : all_seen i visited ≡ preorder 0 f

-- an input has a type: each element of its tree has a name, and no mandatory component is missing
pub record IsOfType (sc : Root) (r : Rules) (i : List ℕ) : Type 0 where
  pub tree : Forest
  pub is_tree : HasTree r i tree
  pub named : list_all is_some (names (of_input sc) tree) ≡ true
  pub whole : is_whole (of_input sc) tree ≡ true

-- the element of an input of a type with an index
abbrev pub components_at : List Component → «Type» → List Component
components_at ts k =
    elim (out-Type k) [
      | Any ↦ []
      | Tagged c n f i ↦ []
      | Choice w ↦ []
      | Selected ↦ []
      | Numbered n ↦ option_to_list (slice_get ts n)
    ]

-- a known type, with the types that have an index
abbrev pub root_at : List Component → KnownType → Root
root_at ts k = record { components = components_at ts k.kind; types = ts }

-- an input has a known type: it has the type, and its elements have all signs of the type
pub record IsKnownType (ts : List Component) (r : Rules) (i : List ℕ) (k : KnownType) : Type 0 where
  pub of_type : IsOfType (root_at ts k) r i
  pub told : list_all (has_sign (contents_in i of_type.is_tree.visited)) k.signs.now ≡ true

pub record IsSchemaOf (ts : List Component) (k : KnownType) (sc : Schema) : Type 0 where
  pub root : root_of sc ≡ root_at ts k
  pub name : sc.name.now ≡ k.name.now

-- two names have the same letters, in any case
abbrev pub SameLetters : List ℕ → List ℕ → Type 0
SameLetters name other = map to_ascii_lowercase name ≡ map to_ascii_lowercase other

-- the first of these types for which P holds
pub record IsFirstOf (P : KnownType → Type 0) (ks : List KnownType) (k : KnownType) : Type 0 where
  pub before : List KnownType
  pub after : List KnownType
  pub parts : ks ≡ before ++ k ∷ after
  pub none : All (λ z. ¬ P z) before
  pub holds : P k

-- the schema of the first known type for which P holds; None if P holds for no type
abbrev pub IsFirstSchema : (KnownType → Type 0) → List KnownType → List Component → Option Schema → Type 0
IsFirstSchema P ks ts result =
    MatchOption result (All (λ z. ¬ P z) ks) (λ sc. (k : KnownType) × IsFirstOf P ks k × IsSchemaOf ts k sc)
