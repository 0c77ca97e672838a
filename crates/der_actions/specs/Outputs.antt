-- The output of an action, for octets that are valid to their end, and for those that are rejected.
use Rattle.std.specs.Prelude.{◌≡◌, ◌≢◌, ◌⊎◌, ℕ, true, false, Option, option_map, List, [], ◌∷◌, ◌++◌, codes}
use Rattle.std.specs.Io.KnownBytes.{Appends, Keeps}
use Rattle.der_base.specs.declared.rules.Rules.{Rules}
use Rattle.der_canon.specs.declared.error.CanonError.TheVariants as canon
use Rattle.der_canon.specs.declared.error.NotCanonical.{NotCanonical}
use Rattle.der_canon.specs.Errors.{IsCanonErrorOf}
use Rattle.der_canon.specs.Written.{IsDerOf}
use Rattle.der_elements.specs.Check.Elements.{AreElements}
use Rattle.text_json.specs.declared.fields.secrets.Exposure.{Exposure}
use Rattle.text_json.specs.declared.fields.secrets.Exposure.TheVariants.{Full, Outline, Nothing}
use Rattle.text_json.specs.Fields.Lines.{AddsExposed, IsExposed}
use Rattle.text_json.specs.declared.object.Object.{Object}
use Rattle.text_json.specs.Json.{AddsJson, IsJsonOf, IsObjectOf, IsOutlineOf}
use Rattle.der_print.specs.Lines.{content_in}
use Rattle.der_print.specs.Names.{table_of}
use Rattle.der_schema.specs.declared.schema.Schema.{Schema}
use Rattle.der_actions.specs.declared.options.Options.{Options}
use Rattle.der_actions.specs.declared.print.Lines.{Lines}
use Rattle.der_actions.specs.declared.print.Lines.TheVariants as kind
use Rattle.der_actions.specs.Choices.{AreListed, Listed}
use Rattle.der_actions.specs.Namings.{IsAsAsked, IsExposedBy, IsNamedBy, field_in, field_member}
use Rattle.der_actions.specs.Parts.{AreOctetsOf, AreWrittenOf}
use Rattle.der_actions.specs.Pem.{IsPem}
use Rattle.der_actions.specs.Places.{AreNotAsked, IsAsked}
use Rattle.der_elements.specs.declared.error.ElementError.{ElementError}
use Rattle.der_elements.specs.declared.walk.Walk.{Walk}
use Rattle.der_elements.specs.Visits.{Extras, Visited, Visits}
use Rattle.der_elements.specs.Walked.{HasVisited, IsRefused}

-- with or without the elements inside strings, and with values that break their type
abbrev pub extras_of : Options → Extras
extras_of o = record { enters_strings = o.enters_strings; keeps_values = true }

-- octets are valid elements, at least one
abbrev pub AreSomeElements : Rules → List ℕ → Type 0
AreSomeElements r i = AreElements r 101 i × (i ≢ [])

-- what a check requires of octets: they are valid elements, and have the type of the options, if there is one
abbrev pub IsChecked : Options → List ℕ → Type 0
IsChecked o i = AreSomeElements o.rules i × IsAsAsked o.naming o.rules i

-- an object with this name of a field
abbrev pub HasField : List ℕ → Object → Type 0
HasField field x = option_map (λ w. w.now) x.field ≡ field_member field

-- the object of an element with this content
abbrev pub IsFullObject : List ℕ → Options → Visited → List ℕ → Object → Type 0
IsFullObject field o v w x = HasField field x × IsObjectOf (table_of o.own_names) v w x

-- the object of a secret element, which doesn't depend on the content
abbrev pub IsSecretObject : List ℕ → Visited → Object → Type 0
IsSecretObject field v x = HasField field x × IsOutlineOf v x

-- the line of an object for which P holds
abbrev pub IsJsonLine : (Object → Type 0) → List ℕ → Type 0
IsJsonLine P line = (x : Object) × P x × (text : List ℕ) × IsJsonOf x text × (line ≡ text ++ codes "\n")

-- the JSON line of an element, as far as it may be printed; a primitive one has its content
abbrev pub IsExposedJson : List ℕ → Options → List ℕ → Visited → Exposure → List ℕ → Type 0
IsExposedJson field o i v Full line = (w : List ℕ) × (v.constructed ≡ false → w ≡ content_in i v)
    × IsJsonLine (IsFullObject field o v w) line
IsExposedJson field o i v Outline line = IsJsonLine (IsSecretObject field v) line
IsExposedJson field o i v Nothing line = line ≡ []

-- the line of an element as far as it may be printed, with the name of its field, and with the user's names of object
-- identifiers
abbrev pub IsLineBy : Lines → List ℕ → Options → List ℕ → Visited → Exposure → List ℕ → Type 0
IsLineBy kind.Tree field o i v x line = IsExposed (table_of o.own_names) field o.style v (content_in i v) x line
IsLineBy kind.Json field o i v x line = IsExposedJson field o i v x line

-- the line of a listed element of an input, by the type if there is one
abbrev pub IsLineOf : Lines → Option Schema → Options → List ℕ → Listed → List ℕ → Type 0
IsLineOf k s o i l line = (x : Exposure) × IsExposedBy s i l.before l.element x
    × IsLineBy k (field_in s i l.before l.element) o i l.element x line

-- a line for each listed element of an input, in order
pub data AreLinesOf (k : Lines) (s : Option Schema) (o : Options) (i : List ℕ)
    : List Listed → List ℕ → Type 0 where
  no_lines : AreLinesOf k s o i [] []
  one_more_line : {us : List Listed} {text : List ℕ} (l : Listed) (line : List ℕ) → AreLinesOf k s o i us text
      → IsLineOf k s o i l line → AreLinesOf k s o i (us ++ l ∷ []) (text ++ line)

-- known octets grew by the JSON line of an element with this content, as far as it may be printed
abbrev pub AddsExposedJson : List ℕ → Options → Visited → List ℕ → Exposure → Option (List ℕ) → Option (List ℕ)
    → Type 0
AddsExposedJson field o v w Full old new = AddsJson (IsFullObject field o v w) old new
AddsExposedJson field o v w Outline old new = AddsJson (IsSecretObject field v) old new
AddsExposedJson field o v w Nothing old new = new ≡ old

-- known octets grew by the line of an element with this content, as far as it may be printed
abbrev pub AddsLineOf : Lines → List ℕ → Options → Visited → List ℕ → Exposure → Option (List ℕ) → Option (List ℕ)
    → Type 0
AddsLineOf kind.Tree field o v w x old new = AddsExposed (table_of o.own_names) field o.style v w x old new
AddsLineOf kind.Json field o v w x old new = AddsExposedJson field o v w x old new

-- known octets grew by a line for each listed element of the input, in preorder; at least one is listed, and the input
-- is valid and has the type of the options, if there is one
pub record WritesLines (k : Lines) (o : Options) (i : List ℕ) (old new : Option (List ℕ)) : Type 0 where
  pub elements : List Visited
  pub visits : Visits (extras_of o) o.rules 101 0 0 i elements
  pub as_asked : IsAsAsked o.naming o.rules i
  pub schema : Option Schema
  pub named_by : IsNamedBy o.naming o.rules i schema
  pub listed : List Listed
  pub are_listed : AreListed schema i o elements listed
  pub some : listed ≢ []
  pub text : List ℕ
  pub lines : AreLinesOf k schema o i listed text
  pub adds : Appends old new text

-- known octets grew by the DER encoding of the input
pub record WritesDer (i : List ℕ) (old new : Option (List ℕ)) : Type 0 where
  pub text : List ℕ
  pub same : IsDerOf i text
  pub adds : Appends old new text

-- known octets grew by the DER encoding of the input, as a PEM block with this label
pub record WritesPem (label i : List ℕ) (old new : Option (List ℕ)) : Type 0 where
  pub octets : List ℕ
  pub same : IsDerOf i octets
  pub text : List ℕ
  pub is_pem : IsPem label octets text
  pub adds : Appends old new text

-- nothing is written for an input that meets a check
pub record WritesNothing (o : Options) (i : List ℕ) (old new : Option (List ℕ)) : Type 0 where
  pub checked : IsChecked o i
  pub keeps : new ≡ old

-- a walk visits these elements first
abbrev pub VisitsFirst : Options → List ℕ → List Visited → Type 0
VisitsFirst o i vs = (w : Walk) × HasVisited (extras_of o) o.rules i w vs

-- known octets grew by those of the first element at the place; the input has the type of the options, if there is one
pub record WritesPart (o : Options) (i : List ℕ) (old new : Option (List ℕ)) : Type 0 where
  pub as_asked : IsAsAsked o.naming o.rules i
  pub schema : Option Schema
  pub named_by : IsNamedBy o.naming o.rules i schema
  pub before : List Visited
  pub element : Visited
  pub visits : VisitsFirst o i (before ++ element ∷ [])
  pub not_asked : AreNotAsked schema i o.place before
  pub asked : IsAsked schema i o.place before element
  pub writes : AreWrittenOf o i element old new

-- octets are rejected after these elements
abbrev pub IsRefusedAfter : Options → List ℕ → List Visited → Type 0
IsRefusedAfter o i vs = (w : Walk) × (f : ElementError) × IsRefused (extras_of o) o.rules i vs w f

-- octets are rejected after these elements; or these are all, and none is listed or the octets don't have the type of
-- the options
abbrev pub EndsAfter : Options → List ℕ → List Visited → List Listed → Type 0
EndsAfter o i vs us = IsRefusedAfter o i vs
    ⊎ (Visits (extras_of o) o.rules 101 0 0 i vs × ((us ≡ []) ⊎ (¬ IsAsAsked o.naming o.rules i)))

-- octets are rejected, and known octets grew by a line for each listed element before
pub record RefusesLines (k : Lines) (o : Options) (i : List ℕ) (old new : Option (List ℕ)) : Type 0 where
  pub elements : List Visited
  pub listed : List Listed
  pub ends : EndsAfter o i elements listed
  pub schema : Option Schema
  pub named_by : IsNamedBy o.naming o.rules i schema
  pub are_listed : AreListed schema i o elements listed
  pub text : List ℕ
  pub lines : AreLinesOf k schema o i listed text
  pub adds : Appends old new text

-- octets are rejected after these elements, or these are all
abbrev pub HasNoMore : Options → List ℕ → List Visited → Type 0
HasNoMore o i vs = IsRefusedAfter o i vs ⊎ Visits (extras_of o) o.rules 101 0 0 i vs

-- Nothing is written: the input doesn't have the type of the options; or no element is at the place, before the first
-- error or in all of the input; or the first one there is incomplete.
pub data RefusesPart (o : Options) (i : List ℕ) (old new : Option (List ℕ)) : Type 0 where
  other_type : ¬ IsAsAsked o.naming o.rules i → new ≡ old → RefusesPart o i old new
  no_element : (s : Option Schema) (vs : List Visited) → IsNamedBy o.naming o.rules i s → AreNotAsked s i o.place vs
      → HasNoMore o i vs → new ≡ old → RefusesPart o i old new
  no_octets : (s : Option Schema) (vs : List Visited) (v : Visited) → IsNamedBy o.naming o.rules i s
      → VisitsFirst o i (vs ++ v ∷ []) → AreNotAsked s i o.place vs → IsAsked s i o.place vs v
      → ((w : List ℕ) → ¬ AreOctetsOf i v w) → new ≡ old → RefusesPart o i old new

-- octets aren't valid BER, or an element has no DER encoding; nothing is written
abbrev pub RefusesDer : List ℕ → Option (List ℕ) → Option (List ℕ) → Type 0
RefusesDer i old new = (e : NotCanonical) × IsCanonErrorOf i (canon.NotCanonical e) × Keeps old new
