-- The words of octets by a known type.
use Rattle.std.specs.Option.{option_map}
use Rattle.std.specs.Prelude.{◌≡◌, ◌⊎◌, ℕ, Bool, true, false, IsTrue, Option, Some, None, List, [], ◌∷◌, codes}
use Rattle.der_base.specs.declared.rules.Rules.TheVariants.{Ber}
use Rattle.der_elements.specs.Visits.{Visited, Visits}
use Rattle.der_known.specs.declared.known.KnownTypes.{KnownTypes}
use Rattle.der_schema.specs.declared.schema.Schema.{Schema}
use Rattle.der_schema.specs.declared.schema.Component.{Component}
use Rattle.der_schema.specs.declared.words.Notation.{Notation}
use Rattle.der_schema.specs.declared.words.Notation.TheVariants.{Title}
use Rattle.der_schema.specs.declared.words.Words.{Words}
use Rattle.der_schema.specs.Known.{IsFirstSchema, all_extras}
use Rattle.der_schema.specs.Meaning.{all_types, root_of, words_in}
use Rattle.der_show.specs.declared.words.Words.{Words as Summary}
use Rattle.type_words.specs.Items.{items_of}
use Rattle.type_words.specs.Lines.{AreLines}

-- the words of a type for octets, which are elements of BER, and the name that is told of the type
pub record AreWordsNamed (name : Option (List ℕ)) (sc : Schema) (i : List ℕ) (w : Summary) : Type 0 where
  pub elements : List Visited
  pub visits : Visits all_extras Ber 101 0 0 i elements
  pub lines : AreLines (items_of (root_of sc) i elements) w.text.items
  pub start : w.words_at ≡ 0
  pub rules : w.keeps_rules ≡ true
  pub by_type : option_map (λ n. n.now) w.by_type ≡ name

abbrev pub AreTypeWords : Schema → List ℕ → Summary → Type 0
AreTypeWords sc i w = AreWordsNamed (Some sc.name.now) sc i w

abbrev pub AreLinesAlone : Schema → List ℕ → Summary → Type 0
AreLinesAlone sc i w = AreWordsNamed None sc i w

-- the words of the type with this name
abbrev pub AreWords : KnownTypes → List ℕ → List ℕ → Summary → Type 0
AreWords types name i w = (sc : Schema)
    × IsFirstSchema (λ k. k.name.now ≡ name) types.known.now (all_types types.types) (Some sc) × AreTypeWords sc i w

abbrev pub HasWords : KnownTypes → List ℕ → List ℕ → Option Summary → Type 0
HasWords types name i (Some w) = AreWords types name i w
HasWords types name i None = (w : Summary) → ¬ AreWords types name i w

-- the words of octets that are so, if they have some
abbrev pub ShowsByType : (List ℕ → Type 0) → KnownTypes → List ℕ → List ℕ → Option Summary → Type 0
ShowsByType IsSo types name i (Some w) = IsSo i × AreWords types name i w
ShowsByType IsSo types name i None = (w : Summary) → IsSo i → ¬ AreWords types name i w

-- Types without a reader.

-- the types that are only shown in words if their readers take the octets
abbrev pub IsReadFirst : List ℕ → Type 0
IsReadFirst name = (name ≡ codes "Message") ⊎ (name ≡ codes "LDAPMessage") ⊎ (name ≡ codes "AS-REQ")

abbrev pub is_title : Notation → Bool
is_title Title = true
is_title n = false

abbrev pub begins_with_title : Option Words → Bool
begins_with_title (Some w) = is_title w.notation
begins_with_title None = false

-- the words of a type begin with a title
abbrev pub has_title : List Component → Bool
has_title (c ∷ cs) = begins_with_title (words_in c.words)
has_title [] = false

-- the words of the type are shown
abbrev pub IsInWords : Schema → Type 0
IsInWords sc = IsTrue (has_title sc.components.now) × (¬ IsReadFirst sc.name.now)
