-- The lines of an input whose elements have names from a type.
use Rattle.std.specs.Prelude.{◌≡◌, ℕ, Option, List, [], ◌∷◌, ◌++◌}
use Rattle.std.specs.Io.KnownBytes.{Appends}
use Rattle.der_base.specs.declared.rules.Rules.{Rules}
use Rattle.text_json.specs.declared.fields.named.Named.{Named}
use Rattle.text_json.specs.declared.fields.secrets.Exposure.{Exposure}
use Rattle.text_json.specs.declared.fields.secrets.Exposure.TheVariants.{Full, Outline, Nothing}
use Rattle.text_json.specs.Fields.Fields.{Fits, label_after, label_text}
use Rattle.text_json.specs.Fields.Secrets.{IsExposure, secret_text}
use Rattle.der_print.specs.declared.style.Style.{Style}
use Rattle.der_print.specs.Lines.{IsLineOf, content_in, outline}
use Rattle.der_schema.specs.Meaning.{Root}
use Rattle.der_elements.specs.Visits.{Visited}
use Rattle.oid_names.specs.OwnNames.{Named as NamedOctets}

-- the line of an element with this content, as far as it may be printed: with its value; or without it, so that the
-- line doesn't depend on the content; or no line
abbrev pub IsExposed : Option (List NamedOctets) → List ℕ → Style → Visited → List ℕ → Exposure → List ℕ → Type 0
IsExposed own field style v w Full line = IsLineOf own field style v w line
IsExposed own field style v w Outline line = line ≡ outline secret_text field style v
IsExposed own field style v w Nothing line = line ≡ []

-- known octets grew by such a line
pub record AddsExposed (own : Option (List NamedOctets)) (field : List ℕ) (style : Style) (v : Visited) (w : List ℕ)
    (x : Exposure) (old new : Option (List ℕ)) : Type 0 where
  pub line : List ℕ
  pub is_line : IsExposed own field style v w x line
  pub adds : Appends old new line

-- the line of an element after others of an input, as far as the type lets it be printed
abbrev pub IsLineAfter : Root → Option (List NamedOctets) → Style → List ℕ → List Visited → Visited → List ℕ → Type 0
IsLineAfter sc own style i before v line = (x : Exposure) × IsExposure sc i before v x
    × IsExposed own (label_text (label_after sc i before v)) style v (content_in i v) x line

-- a line for each of some elements that follow others in an input, in order, with the names of their fields, and with
-- the user's names of object identifiers
pub data AreFieldLinesAfter (sc : Root) (own : Option (List NamedOctets)) (style : Style) (i : List ℕ)
    : List Visited → List Visited → List ℕ → Type 0 where
  no_lines : {before : List Visited} → AreFieldLinesAfter sc own style i before [] []
  one_more_line : {before vs : List Visited} {v : Visited} (line rest : List ℕ)
      → IsLineAfter sc own style i before v line
      → AreFieldLinesAfter sc own style i (before ++ v ∷ []) vs rest
      → AreFieldLinesAfter sc own style i before (v ∷ vs) (line ++ rest)

-- the lines of the first elements of an input
abbrev pub AreFieldLines : Root → Option (List NamedOctets) → Style → List ℕ → List Visited → List ℕ → Type 0
AreFieldLines sc own style i vs text = AreFieldLinesAfter sc own style i [] vs text

-- known octets grew by a line for each element of an input, up to its end or to the first error
pub record WritesFields (sc : Root) (r : Rules) (own : Option (List NamedOctets)) (style : Style) (i : List ℕ)
    (named : Named) (old new : Option (List ℕ)) : Type 0 where
  pub elements : List Visited
  pub fits : Fits sc r i elements named
  pub text : List ℕ
  pub lines : AreFieldLines sc own style i elements text
  pub adds : Appends old new text
