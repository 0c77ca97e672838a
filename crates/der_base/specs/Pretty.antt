-- The text that is printed of an object, in UTF-8.
use Rattle.std.specs.Prelude.{ℕ, ◌+◌, ◌-◌, ◌*◌, ◌/◌, ◌%◌, ◌^◌, min, Bool, true, false, ◌&&◌, ◌||◌, ◌==◌, nat_lt}
use Rattle.std.specs.Prelude.{if◌then◌else◌, Option, Some, None, List, [], ◌∷◌, ◌++◌, replicate, codes, decimal}
use Rattle.std.specs.Char.{encode_utf8}
use Rattle.std.specs.Char.Utf16.{utf16_chars}
use Rattle.std.specs.Option.{unwrap_or}
use Rattle.der_base.specs.declared.header.Class.{Class}
use Rattle.der_base.specs.declared.header.Class.TheVariants.{Universal, ContextSpecific}
use Rattle.der_base.specs.declared.header.Length.{Length}
use Rattle.der_base.specs.declared.header.Length.TheVariants.{Definite, Indefinite}
use Rattle.der_base.specs.Arcs.{arcs}
use Rattle.der_base.specs.Names.{name_at, class_name, type_name}
use Rattle.der_base.specs.Spelling.{Form, form, Forms, no_forms, forms}
use Rattle.der_base.specs.Text.{units}
use Rattle.der_base.specs.Time.{time_text}
use Rattle.der_base.specs.Tree.{Node, node, Content, end_of_content, boolean, integer, bit_string, string, null}
use Rattle.der_base.specs.Tree.{enumerated, object_identifier, relative_oid, time, sequence, set, absent, present}
use Rattle.der_base.specs.Tree.{tagged, unknown, Nodes, no_nodes, nodes}

-- What is printed: the items of lists, the headers, and how much further an item is indented than its list.
pub record Style : Type 0 where
  pub recursive : Bool
  pub headers : Bool
  pub increment : ℕ

abbrev pub spaces : ℕ → List ℕ
spaces n = replicate n 0x20

-- how far the items are indented; it stops at the greatest number
abbrev pub further : Style → ℕ → ℕ
further s n = min (n + s.increment) (2 ^ 64 - 1)

abbrev pub hex_digit : ℕ → ℕ
hex_digit d = if nat_lt d 10 then 0x30 + d else 0x61 + (d - 10)

abbrev pub hex_pair : ℕ → List ℕ
hex_pair b = hex_digit (b / 16) ∷ hex_digit (b % 16) ∷ []

-- each with a space in front
abbrev pub spaced_hex : List ℕ → List ℕ
spaced_hex [] = []
spaced_hex (b ∷ w) = 0x20 ∷ hex_pair b ++ spaced_hex w

abbrev pub hex_octets : List ℕ → List ℕ
hex_octets [] = []
hex_octets (b ∷ w) = hex_pair b ++ spaced_hex w

-- octets in hex, as [01 00 01]
abbrev pub hex : List ℕ → List ℕ
hex w = codes "[" ++ hex_octets w ++ codes "]"

-- each with a point in front
abbrev pub pointed : List ℕ → List ℕ
pointed [] = []
pointed (a ∷ rest) = codes "." ++ decimal a ++ pointed rest

abbrev pub dotted : List ℕ → List ℕ
dotted [] = []
dotted (a ∷ rest) = decimal a ++ pointed rest

-- the arcs of an identifier with points between them, or its octets where they are no arcs
abbrev pub arcs_text : Option (List ℕ) → List ℕ → List ℕ
arcs_text (Some numbers) w = dotted numbers
arcs_text None w = hex w

abbrev pub put_before : ℕ → Option (List ℕ) → Option (List ℕ)
put_before c None = None
put_before c (Some w) = Some (encode_utf8 c ++ w)

-- the text of characters, of which each may be none
abbrev pub characters_text : List (Option ℕ) → Option (List ℕ)
characters_text [] = Some []
characters_text (None ∷ cs) = None
characters_text (Some c ∷ cs) = put_before c (characters_text cs)

-- a character by its number, which is none from D800 to DFFF and above 10FFFF
abbrev pub character : ℕ → Option ℕ
character c = if nat_lt c 0xD800 || (nat_lt 0xDFFF c && nat_lt c 0x110000) then Some c else None

-- the characters that whole groups of four octets are, the highest octet first
abbrev pub utf32_chars : List ℕ → List (Option ℕ)
utf32_chars (a ∷ b ∷ c ∷ d ∷ w) = character (((a * 256 + b) * 256 + c) * 256 + d) ∷ utf32_chars w
utf32_chars _ = []

abbrev pub plain : List ℕ → List ℕ → List ℕ
plain name w = name ++ codes "(" ++ w ++ codes ")"

abbrev pub named_hex : List ℕ → List ℕ → List ℕ
named_hex name w = plain name (hex w)

abbrev pub quoted : List ℕ → List ℕ → List ℕ
quoted name w = name ++ codes "(\"" ++ w ++ codes "\")"

-- a string whose characters are decoded, or its octets, on a line that it ends
abbrev pub decoded : List ℕ → Option (List ℕ) → List ℕ → List ℕ
decoded name (Some t) w = quoted name t ++ codes "\n"
decoded name None w = named_hex name w ++ codes " <error decoding utf32 string>\n"

abbrev pub boolean_text : Bool → List ℕ
boolean_text true = codes "true"
boolean_text false = codes "false"

-- the string types whose text is written in quotes
abbrev pub quoted_names : List (ℕ × List ℕ)
quoted_names =
    (7, codes "ObjectDescriptor")
    ∷ (12, codes "UTF8String")
    ∷ (18, codes "NumericString")
    ∷ (19, codes "PrintableString")
    ∷ (22, codes "IA5String")
    ∷ (25, codes "GraphicString")
    ∷ (26, codes "VisibleString")
    ∷ (27, codes "GeneralString") ∷ []

-- by the number of the string type; no character is escaped
abbrev pub string_text : ℕ → List ℕ → List ℕ
string_text k w =
    if k == 4 then named_hex (codes "OctetString") w
    else if k == 20 then plain (codes "T61String") w
    else if k == 21 then plain (codes "VideotexString") w
    else if k == 28 then decoded (codes "UniversalString") (characters_text (utf32_chars w)) w
    else if k == 30 then decoded (codes "BmpString") (characters_text (utf16_chars (units w))) w
    else quoted (unwrap_or (name_at quoted_names k) []) w

-- the name of a tag in a header
abbrev pub tag_name : Class → ℕ → List ℕ
tag_name Universal t = type_name t
tag_name ContextSpecific t = decimal t
tag_name c t = class_name c ++ codes " " ++ decimal t

abbrev pub length_text : Length → List ℕ
length_text (Definite n) = decimal n
length_text Indefinite = codes "Indefinite"

-- a header: its tag, whether it is constructed, and its length
abbrev pub header_text : Class → Bool → ℕ → Length → List ℕ
header_text c p t l =
    codes "[" ++ tag_name c t ++ codes "]" ++ (if p then codes "+" else []) ++ codes " " ++ length_text l

-- the lengths of an object that was not read: its header says 0, and so does each one inside
abbrev pub plain_form : Form
plain_form = form (Definite 0) no_forms

-- the lengths of the first item, and of the others; one that is not said is plain
abbrev pub first_form : Forms → Form
first_form no_forms = plain_form
first_form (forms f fs) = f

abbrev pub other_forms : Forms → Forms
other_forms no_forms = no_forms
other_forms (forms f fs) = fs

-- a list, named by the number in its header
abbrev pub list_name : ℕ → List ℕ
list_name t = if t == 16 then codes "Sequence" else codes "Set"

-- its items, from the next line on
abbrev pub bracketed : ℕ → List ℕ → List ℕ
bracketed n items = codes "[\n" ++ items ++ spaces n ++ codes "]"

-- the name, and the items where they are printed
abbrev pub list_text : Style → ℕ → ℕ → List ℕ → List ℕ
list_text s n t items = list_name t ++ (if s.recursive then bracketed n items else [])

-- an object after a tag
abbrev pub tagged_text : ℕ → Class → ℕ → List ℕ → List ℕ
tagged_text n c k inner =
    codes "ContextSpecific [" ++ class_name c ++ codes " " ++ decimal k ++ codes "] {\n"
    ++ inner ++ spaces n ++ codes "}"

-- a content that holds no object; only a string whose characters are decoded ends its line
abbrev pub leaf_text : Content → List ℕ
leaf_text end_of_content = codes "EndOfContent"
leaf_text (boolean b) = plain (codes "Boolean") (boolean_text b)
leaf_text (integer w) = named_hex (codes "Integer") w
leaf_text (bit_string u w) = plain (codes "BitString") (decimal u ++ codes "," ++ hex w)
leaf_text (string k w) = string_text k w
leaf_text null = codes "Null"
leaf_text (enumerated k) = plain (codes "Enum") (decimal k)
leaf_text (object_identifier r w) = plain (codes "OID") (arcs_text (arcs r w) w)
leaf_text (relative_oid r w) = plain (codes "RelativeOID") (arcs_text (arcs r w) w)
leaf_text (time k x) = quoted (if k == 23 then codes "UTCTime" else codes "GeneralizedTime") (time_text k x)
leaf_text (unknown c p k w) = codes "Unknown " ++ hex w
leaf_text _ = []

-- in front of a content: spaces, and the header where it is printed
abbrev pub front_text : Style → ℕ → Class → Bool → ℕ → Length → List ℕ
front_text s n c p t l = spaces n ++ (if s.headers then header_text c p t l ++ codes " " else [])

abbrev mutual
  -- An object that is indented by n spaces. Its form has the lengths in its header and in those inside.
  pub pretty : Style → ℕ → Node → Form → List ℕ
  pretty s n (node c p t x) (form l fs) = front_text s n c p t l ++ content_text s n t x fs

  -- a content after a header of tag number t
  pub content_text : Style → ℕ → ℕ → Content → Forms → List ℕ
  content_text s n t (sequence l) fs = list_text s n t (items_text s (further s n) l fs)
  content_text s n t (set l) fs = list_text s n t (items_text s (further s n) l fs)
  content_text s n t absent fs = codes "NONE"
  content_text s n t (present o) fs = codes "OPTION " ++ pretty s 0 o (first_form fs)
  content_text s n t (tagged c k o) fs = tagged_text n c k (pretty s (further s n) o (first_form fs))
  content_text s n t x fs = leaf_text x

  -- items, with nothing between them
  pub items_text : Style → ℕ → Nodes → Forms → List ℕ
  items_text s n no_nodes fs = []
  items_text s n (nodes o l) fs = pretty s n o (first_form fs) ++ items_text s n l (other_forms fs)
