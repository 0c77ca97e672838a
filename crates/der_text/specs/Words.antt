-- The octets of words and tags (docs/TEXT.md).
use Rattle.std.specs.Prelude.{ℕ, ◌-◌, ◌==◌, ◌||◌, ◌^◌, nat_lt, Bool, true, false, if◌then◌else◌}
use Rattle.std.specs.Prelude.{List, [], ◌∷◌, length, map, take, drop, codes, find, Option, Some, None, Result, Ok, Err}
use Rattle.std.specs.Char.{is_ascii_digit}
use Rattle.std.specs.Cmp.Lexicographic.{pointwise}
use Rattle.std.specs.List.{list_all}
use Rattle.std.specs.Option.{option_and_then, option_map}
use Rattle.std.specs.Str.Parse.{digits_value}
use Rattle.der_base.specs.declared.error.OidParseError.{OidParseError}
use Rattle.der_base.specs.declared.header.Class.{Class}
use Rattle.der_base.specs.declared.header.Class.TheVariants.{Universal, Application, ContextSpecific, Private}
use Rattle.der_base.specs.OidArcs.{dotted_arcs, is_arc, octets_if_arcs}
use Rattle.der_base.specs.Octets.{identifier, shortest_integer}
use Rattle.der_text.specs.declared.item.Form.{Form}
use Rattle.der_text.specs.declared.item.Form.TheVariants.{Long, Indefinite}

-- two texts are one
abbrev pub same : List ℕ → List ℕ → Bool
same a b = pointwise (λ x y. x == y) a b

-- what follows a prefix, and what precedes a suffix
abbrev pub after_prefix : List ℕ → List ℕ → Option (List ℕ)
after_prefix p text = if same (take (length p) text) p then Some (drop (length p) text) else None

abbrev pub before_suffix : List ℕ → List ℕ → Option (List ℕ)
before_suffix s text =
    let n = length text - length s in if same (drop n text) s then Some (take n text) else None

-- the words with octets of their own: the identifier octets of universal types (X.690 8.1.2) ..
abbrev pub basic_types : List (List ℕ × List ℕ)
basic_types =
    (codes "BOOLEAN", 0x01 ∷ [])
    ∷ (codes "INTEGER", 0x02 ∷ [])
    ∷ (codes "BIT_STRING", 0x03 ∷ [])
    ∷ (codes "OCTET_STRING", 0x04 ∷ [])
    ∷ (codes "NULL", 0x05 ∷ [])
    ∷ (codes "OBJECT_IDENTIFIER", 0x06 ∷ [])
    ∷ (codes "REAL", 0x09 ∷ [])
    ∷ (codes "ENUMERATED", 0x0a ∷ [])
    ∷ (codes "RELATIVE-OID", 0x0d ∷ []) ∷ []

abbrev pub constructed_types : List (List ℕ × List ℕ)
constructed_types =
    (codes "SEQUENCE", 0x30 ∷ [])
    ∷ (codes "SET", 0x31 ∷ [])
    ∷ (codes "EXTERNAL", 0x28 ∷ [])
    ∷ (codes "EMBEDDED_PDV", 0x2b ∷ [])
    ∷ (codes "CHARACTER_STRING", 0x3d ∷ []) ∷ []

abbrev pub string_types : List (List ℕ × List ℕ)
string_types =
    (codes "UTF8String", 0x0c ∷ [])
    ∷ (codes "NumericString", 0x12 ∷ [])
    ∷ (codes "PrintableString", 0x13 ∷ [])
    ∷ (codes "T61String", 0x14 ∷ [])
    ∷ (codes "VideotexString", 0x15 ∷ [])
    ∷ (codes "IA5String", 0x16 ∷ [])
    ∷ (codes "GraphicString", 0x19 ∷ [])
    ∷ (codes "VisibleString", 0x1a ∷ []) ∷ []

abbrev pub other_types : List (List ℕ × List ℕ)
other_types =
    (codes "ObjectDescriptor", 0x07 ∷ [])
    ∷ (codes "UTCTime", 0x17 ∷ [])
    ∷ (codes "GeneralizedTime", 0x18 ∷ [])
    ∷ (codes "GeneralString", 0x1b ∷ [])
    ∷ (codes "UniversalString", 0x1c ∷ [])
    ∷ (codes "BMPString", 0x1e ∷ []) ∷ []

-- .. the contents of a BOOLEAN (8.2), and an end marker (8.1.5)
abbrev pub value_words : List (List ℕ × List ℕ)
value_words =
    (codes "TRUE", 0xff ∷ [])
    ∷ (codes "FALSE", 0x00 ∷ [])
    ∷ (codes "END", 0x00 ∷ 0x00 ∷ []) ∷ []

abbrev pub in_table : List (List ℕ × List ℕ) → List ℕ → Option (List ℕ)
in_table table w = option_map (λ row. row.1) (find (λ row. same row.0 w) table)

-- the first that there is
abbrev pub or_else : Option (List ℕ) → Option (List ℕ) → Option (List ℕ)
or_else (Some w) other = Some w
or_else None other = other

unfoldable pub known_octets : List ℕ → Option (List ℕ)
known_octets w =
    or_else (in_table basic_types w) (or_else (in_table constructed_types w) (or_else (in_table string_types w)
    (or_else (in_table other_types w) (in_table value_words w))))

-- the number of at most 2^64-1 that decimal digits write
abbrev pub decimal_number : List ℕ → Option ℕ
decimal_number ds = if is_arc ds then Some (digits_value 10 ds) else None

-- the complement of each bit: of the octets of n they are those of -1 - n (X.690 8.3.3)
abbrev pub complements : List ℕ → List ℕ
complements w = map (λ b. 255 - b) w

abbrev pub negative_octets : ℕ → Option (List ℕ)
negative_octets n = if n == 0 then None else Some (complements (shortest_integer (n - 1)))

-- the contents of an INTEGER in decimal: the fewest octets in two's complement (8.3.2)
unfoldable pub integer_octets : List ℕ → Option (List ℕ)
integer_octets w = elim (after_prefix (codes "-") w) [
  | None ↦ option_map shortest_integer (decimal_number w)
  | Some ds ↦ option_and_then negative_octets (decimal_number ds)
]

-- the contents of an OBJECT IDENTIFIER: arcs with points between them (8.19)
abbrev pub is_dotted : ℕ → Bool
is_dotted c = is_ascii_digit c || c == 46

abbrev pub if_made : Result (List ℕ) OidParseError → Option (List ℕ)
if_made (Ok w) = Some w
if_made (Err e) = None

unfoldable pub identifier_octets : List ℕ → Option (List ℕ)
identifier_octets w = if list_all is_dotted w then if_made (octets_if_arcs (dotted_arcs w)) else None

-- the octets of a word
unfoldable pub word_octets : List ℕ → Option (List ℕ)
word_octets w = or_else (known_octets w) (or_else (integer_octets w) (identifier_octets w))

-- the form of length octets that a word names (8.1.3)
abbrev pub long_form : ℕ → Option Form
long_form n = if nat_lt n 256 then Some (Long n) else None

unfoldable pub word_form : List ℕ → Option Form
word_form w =
    if same w (codes "indefinite") then Some Indefinite
    else option_and_then long_form (option_and_then decimal_number (after_prefix (codes "long-form:") w))

-- the class of a tag, and what follows its name
abbrev pub or_class : Class → Option (List ℕ) → Class × List ℕ → Class × List ℕ
or_class c (Some rest) other = (c, rest)
or_class c None other = other

abbrev pub class_first : List ℕ → Class × List ℕ
class_first tag =
    or_class Universal (after_prefix (codes "UNIVERSAL ") tag)
    (or_class Application (after_prefix (codes "APPLICATION ") tag)
    (or_class Private (after_prefix (codes "PRIVATE ") tag) (ContextSpecific, tag)))

-- whether a tag is of a constructed element, and what precedes that
abbrev pub form_last : List ℕ → Bool × List ℕ
form_last tag = elim (before_suffix (codes " PRIMITIVE") tag) [ Some ds ↦ (false, ds) | None ↦ (true, tag) ]

-- identifier octets of a tag number of at most 2^32-1 (8.1.2)
abbrev pub numbered : Class → Bool → ℕ → Option (List ℕ)
numbered c constructed n = if nat_lt n (2 ^ 32) then Some (identifier c constructed n) else None

-- the identifier octets of a tag in brackets, as `APPLICATION 3 PRIMITIVE` or `0`
unfoldable pub tag_octets : List ℕ → Option (List ℕ)
tag_octets tag =
    let class = class_first tag in
    let form = form_last class.1 in
    option_and_then (numbered class.0 form.0) (decimal_number form.1)
