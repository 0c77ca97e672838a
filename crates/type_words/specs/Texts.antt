-- Values in words.
use Rattle.std.specs.Prelude.{ℕ, ◌^◌, ◌==◌, ◌&&◌, not, nat_le, nat_lt, Bool, false, if◌then◌else◌, ℤ, pos, negsuc}
use Rattle.std.specs.Prelude.{Option, Some, None, List, [], ◌∷◌, ◌++◌, codes, decimal, length}
use Rattle.std.specs.List.{list_all}
use Rattle.std.specs.Net.Text.{ipv4_text}
use Rattle.std.specs.Str.{is_utf8}
use Rattle.der_base.specs.Octets.{integer_value}
use Rattle.der_print.specs.declared.style.Limit.TheVariants.{Whole}
use Rattle.der_print.specs.Quotes.{quoted_text}
use Rattle.der_print.specs.Values.{hex_text, identifier_text, is_ascii_text, number_text}
use Rattle.der_schema.specs.declared.words.Notation.{Notation}
use Rattle.der_schema.specs.declared.words.Notation.TheVariants.{Word, Number, NumberOf, NameOf, Arcs, Octets, Hex}
use Rattle.der_schema.specs.declared.words.Notation.TheVariants.{Length, Address, Boolean, Text, TextOrHex}
use Rattle.der_schema.specs.declared.words.NumberName.{NumberName}

-- a space and a name, if there is one
abbrev pub name_text : Option (List ℕ) → List ℕ
name_text (Some name) = codes " " ++ name
name_text None = []

-- a text in quotes, by UTF-8 or by its octets
abbrev pub text_of : List ℕ → List ℕ
text_of w = quoted_text Whole 12 w

-- octets: as a text if they are printable ASCII, else in hexadecimal digits
abbrev pub octets_text : List ℕ → List ℕ
octets_text [] = codes "\"\""
octets_text (b ∷ w) = if is_ascii_text (b ∷ w) then text_of (b ∷ w) else hex_text Whole (b ∷ w)

-- no control character of ASCII
abbrev pub is_no_control : ℕ → Bool
is_no_control b = nat_le 0x20 b && not (b == 0x7f)

-- octets: as a text if they are UTF-8 without control characters, else in hexadecimal digits
abbrev pub is_shown : List ℕ → Bool
is_shown w = list_all is_no_control w && is_utf8 w

abbrev pub shown_text : List ℕ → List ℕ
shown_text w = if is_shown w then text_of w else hex_text Whole w

-- how many octets there are
abbrev pub count_text : ℕ → List ℕ
count_text n = if n == 1 then codes "1 octet" else decimal n ++ codes " octets"

-- Names of numbers.

abbrev pub name_of : List NumberName → ℕ → Option (List ℕ)
name_of [] n = None
name_of (x ∷ names) n = if x.number == n then Some x.name.now else name_of names n

-- numbers that have a name are below 2^64
abbrev pub name_by : List NumberName → ℤ → Option (List ℕ)
name_by names (pos n) = if nat_lt n (2 ^ 64) then name_of names n else None
name_by names (negsuc n) = None

-- the name of the number with these content octets (8.3)
abbrev pub name_among : List NumberName → List ℕ → Option (List ℕ)
name_among names w = name_by names (integer_value w)

-- a number, and its name if it has one
abbrev pub number_named : List NumberName → List ℕ → List ℕ
number_named names w = number_text Whole w ++ name_text (name_among names w)

abbrev pub name_or : Option (List ℕ) → List ℕ → List ℕ
name_or (Some name) w = name
name_or None w = number_text Whole w

-- the name of a number, or the number if it has none
abbrev pub named_text : List NumberName → List ℕ → List ℕ
named_text names w = name_or (name_among names w) w

-- an address of IPv4 in four octets, or the octets
abbrev pub address_text : List ℕ → List ℕ
address_text w = if length w == 4 then ipv4_text w else hex_text Whole w

-- the value of a BOOLEAN (8.2.2), or the octets
abbrev pub flag_text : List ℕ → List ℕ
flag_text (b ∷ []) = if b == 0 then codes "false" else codes "true"
flag_text w = hex_text Whole w

-- what is read of content octets in a notation
abbrev pub value_text : Notation → List ℕ → List ℕ
value_text (Word word) w = word.now
value_text Number w = number_text Whole w
value_text (NumberOf names) w = number_named names.now w
value_text (NameOf names) w = named_text names.now w
value_text Arcs w = identifier_text false w
value_text Octets w = octets_text w
value_text Hex w = hex_text Whole w
value_text Length w = count_text (length w)
value_text Address w = address_text w
value_text Boolean w = flag_text w
value_text Text w = text_of w
value_text TextOrHex w = shown_text w
value_text n w = []
