-- The items of a type as lines with values of JSON.
use Rattle.std.specs.Prelude.{◌≡◌, ◌==◌, ◌||◌, ℕ, not, Bool, true, false, if◌then◌else◌, IfSome, Option, Some}
use Rattle.std.specs.Prelude.{List, [], ◌∷◌, ◌++◌, codes, length, map}
use Rattle.std.specs.List.{flat_map}
use Rattle.std.specs.Net.Text.{ipv4_text}
use Rattle.std.specs.Option.{unwrap_or}
use Rattle.std.specs.Str.Lossy.{utf8_lossy}
use Rattle.serde_json.specs.Data.{Data, array, boolean, member, no_members, null, number, object, string, unsigned}
use Rattle.serde_json.specs.View.{items_of}
use Rattle.serde_json.specs.Written.{compact_text}
use Rattle.hex.specs.Hex.{encode_lower}
use Rattle.der_base.specs.declared.rules.Rules.{Rules}
use Rattle.der_base.specs.declared.rules.Rules.TheVariants.{Ber}
use Rattle.der_elements.specs.declared.error.ElementError.{ElementError}
use Rattle.der_elements.specs.Visits.{Visited}
use Rattle.der_print.specs.Quotes.{unquoted_text}
use Rattle.der_print.specs.Values.{IsNameOf, identifier_text, is_ascii_text}
use Rattle.der_schema.specs.declared.schema.Schema.{Schema}
use Rattle.der_schema.specs.declared.words.Notation.{Notation}
use Rattle.der_schema.specs.declared.words.Notation.TheVariants.{Count, Word, Number, NumberOf, NameOf, Arcs, Octets}
use Rattle.der_schema.specs.declared.words.Notation.TheVariants.{Hex, Length, Address, Boolean, Text, TextOrHex}
use Rattle.der_schema.specs.declared.words.Notation.TheVariants.{GeneralizedTime, Joined, Filter}
use Rattle.der_schema.specs.declared.words.NumberName.{NumberName}
use Rattle.der_schema.specs.Known.{all_extras}
use Rattle.der_schema.specs.Meaning.{root_of}
use Rattle.text_json.specs.declared.shown.items.ItemLines.{ItemLines}
use Rattle.text_json.specs.declared.shown.object.Source.{Source}
use Rattle.text_json.specs.Json.{IsTimestamp}
use Rattle.text_json.specs.Numbers.{json_number}
use Rattle.text_json.specs.Shown.Lines.{Line, not_empty, text_or_null, words_of}
use Rattle.text_json.specs.Shown.Objects.{shown_members}
use Rattle.text_json.specs.Shown.Words.{line_view}
use Rattle.type_words.specs.Counts.{IsCount, values_kept}
use Rattle.type_words.specs.Filters.{IsFilterText}
use Rattle.type_words.specs.Items.{Said, content_in, items_of as items_by_type}
use Rattle.type_words.specs.Puts.{EndsWith}
use Rattle.type_words.specs.Texts.{is_shown, name_among}

-- Values.

-- a text in UTF-8, in which other octets are escaped
abbrev pub text_data : List ℕ → Data
text_data w = string (unquoted_text 12 w)

abbrev pub hex_data : List ℕ → Data
hex_data w = object (member (codes "hex") (string (encode_lower w)) no_members)

-- a text, or else hexadecimal digits
abbrev pub text_or_hex : Bool → List ℕ → Data
text_or_hex is_text w = if is_text then text_data w else hex_data w

abbrev pub named_number : List NumberName → List ℕ → Data
named_number names w = object (member (codes "name") (text_or_null (name_among names w))
    (member (codes "number") (json_number w) no_members))

-- an identifier: its arcs, and its name, which is one of the table and may be left out
abbrev pub IsIdentifier : List ℕ → Data → Type 0
IsIdentifier w d = (name : Option (List ℕ)) × IfSome name (IsNameOf w)
    × (d ≡ object (member (codes "arcs") (string (identifier_text false w))
    (member (codes "name") (text_or_null name) no_members)))

-- an address of IPv4 in four octets
abbrev pub address_data : List ℕ → Data
address_data w = if length w == 4 then string (ipv4_text w) else hex_data w

-- the value of a BOOLEAN (X.690 8.2.2)
abbrev pub flag_data : List ℕ → Data
flag_data (b ∷ []) = boolean (not (b == 0))
flag_data w = hex_data w

-- a time in the form of RFC 3339, or its text if it has none
abbrev pub IsTime : List ℕ → Data → Type 0
IsTime w d = (time : Option (List ℕ)) × IsTimestamp 24 w time × (d ≡ string (unwrap_or time (unquoted_text 12 w)))

-- the texts of the outermost of the elements that are visited in w
abbrev pub part : List ℕ → Visited → List Data
part w v = if v.depth == 0 then text_data (content_in w v) ∷ [] else []

abbrev pub AreParts : List ℕ → List Data → Type 0
AreParts w ds = (vs : List Visited) × (end : Option ElementError) × EndsWith values_kept Ber w vs end
    × (ds ≡ flat_map (part w) vs)

-- a search filter (RFC 4515); octets that aren't UTF-8 would be replaced
abbrev pub IsFilterIn : List ℕ → List ℕ → Type 0
IsFilterIn w said = (text : List ℕ) × IsFilterText w text × (said ≡ utf8_lossy text)

-- a value in a notation
abbrev pub IsItemValue : Notation → List ℕ → Data → Type 0
IsItemValue (Word word) w d = d ≡ string word.now
IsItemValue Count w d = (n : ℕ) × IsCount w n × (d ≡ number (unsigned n))
IsItemValue Number w d = d ≡ json_number w
IsItemValue (NumberOf names) w d = d ≡ named_number names.now w
IsItemValue (NameOf names) w d = d ≡ named_number names.now w
IsItemValue Arcs w d = IsIdentifier w d
IsItemValue Octets w d = d ≡ text_or_hex (length w == 0 || is_ascii_text w) w
IsItemValue Hex w d = d ≡ hex_data w
IsItemValue Length w d = d ≡ object (member (codes "length") (number (unsigned (length w))) no_members)
IsItemValue Address w d = d ≡ address_data w
IsItemValue Boolean w d = d ≡ flag_data w
IsItemValue Text w d = d ≡ text_data w
IsItemValue TextOrHex w d = d ≡ text_or_hex (is_shown w) w
IsItemValue GeneralizedTime w d = IsTime w d
IsItemValue Joined w d = (ds : List Data) × AreParts w ds × (d ≡ array (items_of ds))
IsItemValue Filter w d = (text : List ℕ) × IsFilterIn w text × (d ≡ string text)
IsItemValue n w d = d ≡ null

-- Lines.

-- the line of an item
pub record IsItemLine (x : Said) (l : Line) : Type 0 where
  pub indent : l.indent ≡ x.indent
  pub name : l.name ≡ string x.label
  pub kind : l.kind ≡ text_or_null (not_empty x.kind)
  pub value : IsItemValue x.notation x.octets l.value
  pub offset : l.offset ≡ Some x.offset

-- the lines of items, one after another
pub data AreItemLines : List Said → List Line → Type 0 where
  no_lines : {xs : List Said} {ls : List Line} → xs ≡ [] → ls ≡ [] → AreItemLines xs ls
  one_more : {xs : List Said} {ls : List Line} (before : List Said) (x : Said) (lines : List Line) (l : Line)
      → xs ≡ before ++ x ∷ [] → ls ≡ lines ++ l ∷ [] → AreItemLines before lines → IsItemLine x l → AreItemLines xs ls

-- one more line, that of an item
abbrev pub AddsItem : ItemLines → Said → ItemLines → Type 0
AddsItem s x t = (l : Line) × IsItemLine x l × (map line_view t.lines.items ≡ map line_view s.lines.items ++ l ∷ [])

-- the lines of the items of octets by a type, up to the end of the octets or their first fault
pub record HasItemLines (r : Rules) (sc : Schema) (i : List ℕ) (ls : List Line) : Type 0 where
  pub elements : List Visited
  pub end : Option ElementError
  pub visited : EndsWith all_extras r i elements end
  pub lines : AreItemLines (items_by_type (root_of sc) i elements) ls

-- the summary of octets by a type as JSON, without spaces
pub record IsTypedText (s : Source) (r : Rules) (sc : Schema) (i text : List ℕ) : Type 0 where
  pub lines : List Line
  pub has_lines : HasItemLines r sc i lines
  pub whole : text ≡ compact_text (shown_members s [] (words_of lines) true)
