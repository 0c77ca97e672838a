-- Names of identifiers in a text of one's own.
use Rattle.std.specs.Prelude.{◌≡◌, ℕ, suc, ◌⊎◌, ◌==◌, ◌&&◌, ◌||◌, not, Bool, true, false, is_none, if◌then◌else◌}
use Rattle.std.specs.Prelude.{List, [], ◌∷◌, ◌++◌, length, map, find, position, slice_index, Option, Some, None, IfSome}
use Rattle.std.specs.Prelude.{MatchOption, Result, Ok, Err}
use Rattle.std.specs.Option.{option_map, option_and_then}
use Rattle.std.specs.List.{after_first, before_first, flat_map, list_any, slice_split}
use Rattle.std.specs.Str.{trim}
use Rattle.hex.specs.Hex.{encode_lower}
use Rattle.der_base.specs.declared.error.OidParseError.{OidParseError}
use Rattle.der_base.specs.OidArcs.{dotted_arcs, octets_if_arcs}
use Rattle.der_base.specs.Oids.{octets_of}
use Rattle.der_base.specs.TreeEquality.{same_octets}
use Rattle.oid_names.specs.declared.own.Entry.{Entry}
use Rattle.oid_names.specs.declared.own.NamesError.{NamesError}
use Rattle.oid_names.specs.declared.own.NamesError.TheVariants.{WrongLine, OutOfMemory}
use Rattle.oid_names.specs.declared.own.OwnNames.{OwnNames}
use Rattle.oid_names.specs.declared.table.TheConstants.{NAMES}
use Rattle.oid_names.specs.Tables.{HasLine}

-- content octets and a name
abbrev pub Named : Type 0
Named = List ℕ × List ℕ

-- what callers see of an entry, and of a table
abbrev pub entry_in : Entry → Named
entry_in e = (octets_of e.identifier, e.name.now)

abbrev pub entries_in : OwnNames → List Named
entries_in names = map entry_in names.entries.items

-- a line says nothing if it is empty or a comment, but for white space around it
abbrev pub is_passed_over : List ℕ → Bool
is_passed_over content = (length content == 0) || (slice_index content 0 == 0x23)

-- the identifier before the first space, with the name behind it, which isn't empty
abbrev pub named : List ℕ → Result (List ℕ) OidParseError → Option Named
named name (Ok octets) = if length name == 0 then None else Some (octets, name)
named name (Err e) = None

abbrev pub entry_of : List ℕ → Option Named
entry_of content = named (trim (after_first (λ c. c == 0x20) content))
    (octets_if_arcs (dotted_arcs (before_first (λ c. c == 0x20) content)))

abbrev pub listed : Option Named → List Named
listed None = []
listed (Some entry) = entry ∷ []

-- what a line adds to a table, and whether it is neither an entry nor passed over
abbrev pub on_line : List ℕ → List Named
on_line line = if is_passed_over (trim line) then [] else listed (entry_of (trim line))

abbrev pub is_wrong : List ℕ → Bool
is_wrong line = not (is_passed_over (trim line)) && is_none (entry_of (trim line))

abbrev pub lines_in : List ℕ → List (List ℕ)
lines_in text = slice_split (λ c. c == 0x0a) text

-- the entries of a text, in which no line is wrong
abbrev pub IsTable : List ℕ → List Named → Type 0
IsTable text entries = (entries ≡ flat_map on_line (lines_in text)) × (list_any is_wrong (lines_in text) ≡ false)

-- why a text has none: so many lines are before the first wrong one
abbrev pub IsWrongTable : List ℕ → NamesError → Type 0
IsWrongTable text (WrongLine before) = position is_wrong (lines_in text) ≡ Some before
IsWrongTable text OutOfMemory = Unit {0}

-- the name of the first entry with these content octets
abbrev pub name_in : List Named → List ℕ → Option (List ℕ)
name_in entries octets = option_map (λ e. e.1) (find (λ e. same_octets e.0 octets) entries)

-- a name of a table of one's own, or else a built-in one, if the identifier has one
abbrev pub IsNameAmong : Option (List Named) → List ℕ → Option (List ℕ) → Type 0
IsNameAmong own octets name = MatchOption (option_and_then (λ entries. name_in entries octets) own)
    (IfSome name (λ n. HasLine NAMES.now (encode_lower octets ++ 0x20 ∷ n)))
    (λ n. name ≡ Some n)
