-- The output of `der show`.
use Rattle.std.specs.Prelude.{◌≡◌, ◌⊎◌, ◌&&◌, not, ℕ, Bool, true, false, MatchBool, MatchOption, Option, Some, None}
use Rattle.std.specs.Prelude.{List, [], ◌++◌, codes}
use Rattle.std.specs.Io.KnownBytes.{Appends, Keeps}
use Rattle.std.specs.Option.{option_map, unwrap_or}
use Rattle.der_base.specs.declared.rules.Rules.TheVariants.{Ber}
use Rattle.der_actions.specs.declared.options.Naming.{Naming}
use Rattle.der_actions.specs.declared.options.Naming.TheVariants.{Unnamed, ByFirst, By}
use Rattle.der_actions.specs.declared.options.Options.{Options}
use Rattle.der_actions.specs.declared.origin.Origin.{Origin}
use Rattle.der_show.specs.declared.unread.Unread.{Unread}
use Rattle.der_show.specs.declared.words.Words.{Words}
use Rattle.der_show.specs.Described.{IsDescribed}
use Rattle.der_show.specs.Fields.{IsShownAs}
use Rattle.der_show.specs.Json.{IsJson}
use Rattle.der_show.specs.Refused.{offset_of}
use Rattle.der_show.specs.RefusedTexts.{IsRefusedText}
use Rattle.der_show.specs.Unread.{IsWhyUnread}
use Rattle.der_elements.specs.declared.error.ElementError.{ElementError}
use Rattle.der_elements.specs.declared.walk.Walk.{Walk}
use Rattle.der_elements.specs.Visits.{Extras, Visited, Visits}
use Rattle.der_elements.specs.Walked.{IsRefused}
use Rattle.text_json.specs.declared.shown.object.Source.{Source}
use Rattle.text_json.specs.Shown.Objects.{refused_text}

-- whether a rule of RFC 5280 is broken, and the options make that an error
abbrev pub is_broken : Options → Words → Bool
is_broken o w = o.is_strict && not w.keeps_rules

-- the source of octets in a JSON object
abbrev pub source_of : Origin → Source
source_of o = record {
  file = o.name;
  block = option_map (λ b. b.number) o.block;
  label = option_map (λ b. b.shown) o.block;
}

-- known octets grew by a line with an object
abbrev pub AddsObject : List ℕ → Option (List ℕ) → Option (List ℕ) → Type 0
AddsObject object old new = Appends old new (object ++ codes "\n")

-- known octets grew by the summary of i as a JSON object
abbrev pub AddsWordsObject : Source → List ℕ → Words → Option (List ℕ) → Option (List ℕ) → Type 0
AddsWordsObject s i w old new = (object : List ℕ) × IsJson s i w object × AddsObject object old new

-- known octets grew by the summary of i, which has this source, as text or as a JSON object
abbrev pub AddsWordsFrom : Source → Options → List ℕ → Words → Option (List ℕ) → Option (List ℕ) → Type 0
AddsWordsFrom s o i w old new = MatchBool o.is_json (AddsWordsObject s i w old new) (Appends old new w.text.items)

-- known octets grew by the summary of i with some source
abbrev pub AddsWords : Options → List ℕ → Words → Option (List ℕ) → Option (List ℕ) → Type 0
AddsWords o i w old new = (s : Source) × AddsWordsFrom s o i w old new

-- the summary of an input: that by the type that it has to have, or else that of the first format that it has
abbrev pub IsSummaryBy : Naming → Option ℕ → List ℕ → Option Words → Type 0
IsSummaryBy Unnamed now i words = IsDescribed now i words
IsSummaryBy (ByFirst types) now i words = IsDescribed now i words
IsSummaryBy (By sc) now i words = IsShownAs now sc i words

abbrev pub IsSummary : Options → List ℕ → Option Words → Type 0
IsSummary o i words = IsSummaryBy o.naming o.present i words

-- why an input isn't a certificate, CRL or certification request, unless it has to have another type
abbrev pub IsUnreadBy : Naming → List ℕ → Option Unread → Type 0
IsUnreadBy Unnamed i unread = IsWhyUnread i unread
IsUnreadBy (ByFirst types) i unread = IsWhyUnread i unread
IsUnreadBy (By sc) i unread = unread ≡ None

abbrev pub IsUnread : Options → List ℕ → Option Unread → Type 0
IsUnread o i unread = IsUnreadBy o.naming i unread

-- known octets grew by the summary of an input, and whether it breaks a rule that is an error
pub record ShowsWordsOf (o : Options) (i : List ℕ) (broken : Bool) (old new : Option (List ℕ)) : Type 0 where
  pub words : Words
  pub describes : IsSummary o i (Some words)
  pub breaks : is_broken o words ≡ broken
  pub adds : AddsWords o i words old new

-- known octets grew by the summary of an input, which breaks no rule that is an error
abbrev pub ShowsWords : Options → List ℕ → Option (List ℕ) → Option (List ℕ) → Type 0
ShowsWords o i old new = ShowsWordsOf o i false old new

-- the summary of what was read of a certificate before the error
abbrev pub IsTextOf : Option ℕ → List ℕ → Option Unread → Option (List ℕ) → Type 0
IsTextOf now i (Some u) text = IsRefusedText now i u.refused text
IsTextOf now i None text = text ≡ None

-- the elements of an input, without those inside strings
abbrev pub plain : Extras
plain = record { enters_strings = false; keeps_values = false }

-- the walk over the elements of an input ends at this error
abbrev pub EndsAt : List ℕ → ElementError → Type 0
EndsAt i f = (vs : List Visited) × (w : Walk) × IsRefused plain Ber i vs w f

-- an input is elements by BER
abbrev pub AreAllElements : List ℕ → Type 0
AreAllElements i = (vs : List Visited) × Visits plain Ber 101 0 0 i vs

-- the offset of the error: that of the first element that isn't valid BER, or else that of the reader that got furthest
abbrev pub IsErrorOffset : List ℕ → Option Unread → Option ℕ → Type 0
IsErrorOffset i unread offset = ((f : ElementError) × EndsAt i f × (offset ≡ Some f.offset))
    ⊎ (AreAllElements i × (offset ≡ option_map (λ u. offset_of u.refused) unread))

-- known octets grew by a text, or stayed if there is none
abbrev pub AddsText : Option (List ℕ) → Option (List ℕ) → Option (List ℕ) → Type 0
AddsText text old new = MatchOption text (Keeps old new) (Appends old new)

-- known octets grew by the object of an error, with its offset and the text that was read before it
pub record AddsError (s : Source) (i : List ℕ) (unread : Option Unread) (text : Option (List ℕ))
    (old new : Option (List ℕ)) : Type 0 where
  pub error : List ℕ
  pub offset : Option ℕ
  pub is_offset : IsErrorOffset i unread offset
  pub adds : AddsObject (refused_text s error offset (unwrap_or text [])) old new

-- known octets grew by what was read, or by the JSON object of the error
abbrev pub AddsFoundFrom : Source → Options → List ℕ → Option Unread → Option (List ℕ) → Option (List ℕ)
    → Option (List ℕ) → Type 0
AddsFoundFrom s o i unread text old new =
    MatchBool o.is_json (AddsError s i unread text old new) (AddsText text old new)

-- known octets grew by what was read of a rejected certificate, or by the JSON object of the error
pub record ShowsRead (o : Options) (i : List ℕ) (old new : Option (List ℕ)) : Type 0 where
  pub unread : Option Unread
  pub why : IsUnread o i unread
  pub text : Option (List ℕ)
  pub is_text : IsTextOf o.present i unread text
  pub source : Source
  pub adds : AddsFoundFrom source o i unread text old new

-- An input has no summary, and what was read of a certificate is written. Or known octets grew by its summary, and it
-- breaks a rule, which is an error.
pub data RefusesShown (o : Options) (i : List ℕ) (old new : Option (List ℕ)) : Type 0 where
  no_words : IsSummary o i None → ShowsRead o i old new → RefusesShown o i old new
  breaks_rule : ShowsWordsOf o i true old new → RefusesShown o i old new
