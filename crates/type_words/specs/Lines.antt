-- Items as lines of text.
use Rattle.std.specs.Prelude.{◌≡◌, ℕ, zero, suc, false, List, [], ◌∷◌, ◌++◌, codes, decimal}
use Rattle.der_base.specs.declared.time.ASN1DateTime.{ASN1DateTime}
use Rattle.der_base.specs.Time.{IsTimeText}
use Rattle.der_print.specs.Values.{moment_text}
use Rattle.der_schema.specs.declared.words.Notation.{Notation}
use Rattle.der_schema.specs.declared.words.Notation.TheVariants.{Title, Count, Filter, Joined, GeneralizedTime}
use Rattle.type_words.specs.Counts.{IsCount}
use Rattle.type_words.specs.Filters.{IsFilterText}
use Rattle.type_words.specs.Items.{Said}
use Rattle.type_words.specs.Joined.{AreJoined}
use Rattle.type_words.specs.Texts.{text_of, value_text}

-- two spaces for each level
abbrev pub columns : ℕ → List ℕ
columns zero = []
columns (suc n) = codes "  " ++ columns n

-- a GeneralizedTime (8.25), or its text where it is none
pub data IsTime (w : List ℕ) : List ℕ → Type 0 where
  moment : {text : List ℕ} (x : ASN1DateTime) → IsTimeText 24 w x → text ≡ moment_text false x → IsTime w text
  no_moment : {text : List ℕ} → ((x : ASN1DateTime) → ¬ IsTimeText 24 w x) → text ≡ text_of w → IsTime w text

-- a value in a notation
abbrev pub IsValue : Notation → List ℕ → List ℕ → Type 0
IsValue Count w text = (n : ℕ) × IsCount w n × (text ≡ decimal n)
IsValue Filter w text = IsFilterText w text
IsValue Joined w text = AreJoined w text
IsValue GeneralizedTime w text = IsTime w text
IsValue n w text = text ≡ value_text n w

-- a space, and what is in front of a value
abbrev pub front_text : List ℕ → List ℕ
front_text [] = codes " "
front_text (b ∷ kind) = codes " " ++ (b ∷ kind) ++ codes " "

-- a value behind a space and what is in front of it
abbrev pub IsBehind : List ℕ → Notation → List ℕ → List ℕ → Type 0
IsBehind kind n w text = (value : List ℕ) × IsValue n w value × (text ≡ front_text kind ++ value)

-- what is behind the colon
abbrev pub IsEndingBy : Notation → Said → List ℕ → Type 0
IsEndingBy Title x text = text ≡ []
IsEndingBy n x text = IsBehind x.kind n x.octets text

abbrev pub IsEnding : Said → List ℕ → Type 0
IsEnding x text = IsEndingBy x.notation x text

-- the line of an item
abbrev pub IsLine : Said → List ℕ → Type 0
IsLine x line = (ending : List ℕ) × IsEnding x ending
    × (line ≡ columns x.indent ++ (x.label ++ codes ":") ++ ending ++ codes "\n")

-- the lines of items, one after another
pub data AreLines : List Said → List ℕ → Type 0 where
  no_lines : {xs : List Said} {text : List ℕ} → xs ≡ [] → text ≡ [] → AreLines xs text
  one_more : {xs : List Said} {text : List ℕ} (before : List Said) (x : Said) (lines line : List ℕ)
      → xs ≡ before ++ x ∷ [] → text ≡ lines ++ line → AreLines before lines → IsLine x line → AreLines xs text
