-- What is printed of the value of a primitive element.
use Rattle.std.specs.Prelude.{◌≡◌, ℕ, ◌-◌, ◌/◌, ◌^◌, ◌⊎◌, ◌==◌, ◌||◌, ◌&&◌, nat_le, nat_lt, if◌then◌else◌}
use Rattle.std.specs.Prelude.{Bool, true, false, IsTrue, ℤ, pos, negsuc, int_lt, nat_abs, Option, Some, None}
use Rattle.std.specs.Prelude.{List, [], ◌∷◌, ◌++◌, codes, decimal, length, take}
use Rattle.std.specs.Fmt.{signed_decimal}
use Rattle.hex.specs.Hex.{encode_lower}
use Rattle.std.specs.List.{list_all}
use Rattle.der_base.specs.declared.header.Class.{Class}
use Rattle.der_base.specs.declared.header.Class.TheVariants.{Universal, Application, ContextSpecific, Private}
use Rattle.der_base.specs.declared.time.ASN1DateTime.{ASN1DateTime}
use Rattle.der_base.specs.declared.time.ASN1TimeZone.{ASN1TimeZone}
use Rattle.der_base.specs.declared.time.ASN1TimeZone.TheVariants.{Undefined, Z, Offset}
use Rattle.der_base.specs.Octets.{integer_value}
use Rattle.der_base.specs.Pretty.{dotted, hex_pair}
use Rattle.der_base.specs.Text.{is_one_of, is_text_type, is_visible, is_within}
use Rattle.der_base.specs.Time.{IsTimeText, at_least_digits, fraction_text, rfc5280_year}
use Rattle.der_values.specs.ArcNumbers.{u128_arcs}
use Rattle.oid_names.specs.OwnNames.{Named, IsNameAmong}
use Rattle.oid_names.specs.Tables.{HasLine}
use Rattle.oid_names.specs.declared.table.TheConstants.{NAMES}
use Rattle.der_print.specs.declared.style.Limit.{Limit}
use Rattle.der_print.specs.declared.style.Limit.TheVariants.{Whole, Front, Columns}
use Rattle.der_print.specs.Cuts.{limit_without}
use Rattle.der_print.specs.Names.{name_text}
use Rattle.der_print.specs.Quotes.{octets_said, quoted_text}

-- the octet of a BOOLEAN: by BER any octet but 0 is TRUE, and another one than FF is shown (8.2.2, 11.1)
abbrev pub truth_text : ℕ → List ℕ
truth_text b =
    if b == 0 then codes " FALSE" else if b == 0xff then codes " TRUE" else codes " TRUE (" ++ hex_pair b ++ codes ")"

-- how many of so many octets are printed
abbrev pub printed_octets : Limit → ℕ → ℕ
printed_octets Whole n = n
printed_octets Front n = if nat_le n 32 then n else 20
printed_octets (Columns columns) n =
    if nat_le n ((columns - 1) / 2) then n else if nat_lt columns 26 then (columns - 4) / 2 else (columns - 18) / 2

-- octets in hexadecimal digits, or the first of them and how many they are
abbrev pub hex_text : Limit → List ℕ → List ℕ
hex_text limit w = let n = printed_octets limit (length w) in
    if nat_lt n (length w) then encode_lower (take n w) ++ codes "..." ++ octets_said 26 limit (length w)
    else encode_lower w

-- the octets without one that is 0 before others
abbrev pub without_leading_zero : List ℕ → List ℕ
without_leading_zero [] = []
without_leading_zero (a ∷ []) = a ∷ []
without_leading_zero (a ∷ b ∷ w) = if a == 0 then b ∷ w else a ∷ b ∷ w

-- a number in decimal, or in hexadecimal digits if it doesn't fit 64 bits
abbrev pub text_of_number : Limit → List ℕ → ℤ → List ℕ
text_of_number limit w (pos n) =
    if nat_lt n (2 ^ 64) then decimal n else codes "0x" ++ hex_text (limit_without limit 2) (without_leading_zero w)
text_of_number limit w (negsuc n) =
    if nat_lt n (2 ^ 63) then signed_decimal (negsuc n)
    else codes "0x" ++ hex_text (limit_without limit 34) w ++ codes " (negative, in two's complement)"

abbrev pub number_text : Limit → List ℕ → List ℕ
number_text limit w = text_of_number limit w (integer_value w)

-- what precedes the first arc of an identifier, relative or not
abbrev pub point_before : Bool → List ℕ → List ℕ
point_before true (b ∷ w) = codes "."
point_before relative w = []

-- an identifier: its arcs with points between them, a relative one after a point, or its octets where they are no arcs
-- below 2^128
abbrev pub text_of_arcs : Option (List ℕ) → Bool → List ℕ → List ℕ
text_of_arcs (Some numbers) relative w = point_before relative w ++ dotted numbers
text_of_arcs None relative w = codes "octets " ++ encode_lower w

abbrev pub identifier_text : Bool → List ℕ → List ℕ
identifier_text relative w = text_of_arcs (u128_arcs relative w) relative w

-- the built-in name of the identifier with these content octets
abbrev pub IsNameOf : List ℕ → List ℕ → Type 0
IsNameOf w name = HasLine NAMES.now (encode_lower w ++ 0x20 ∷ name)

-- the unused bits of the last octet of a BIT STRING (8.6.2)
abbrev pub unused_text : ℕ → List ℕ
unused_text u =
    if u == 0 then [] else if u == 1 then codes " (1 bit unused)" else codes " (" ++ decimal u ++ codes " bits unused)"

abbrev pub bits_text : Limit → List ℕ → List ℕ
bits_text limit [] = []
bits_text limit (u ∷ w) = hex_text (limit_without limit (if u == 0 then 0 else 16)) w ++ unused_text u

abbrev pub minutes_text : ℕ → List ℕ
minutes_text n = codes ":" ++ at_least_digits 2 n

abbrev pub zone_text : ASN1TimeZone → List ℕ
zone_text Undefined = codes " local time"
zone_text Z = codes " UTC"
zone_text (Offset h m) = (if int_lt h (pos 0) || int_lt m (pos 0) then codes " -" else codes " +")
    ++ at_least_digits 2 (nat_abs h) ++ minutes_text (nat_abs m)

-- the year of a UTCTime is completed (RFC 5280 4.1.2.5.1)
abbrev pub full_year : Bool → ASN1DateTime → ℕ
full_year is_utc_time t = if is_utc_time then rfc5280_year t.year else t.year

-- a moment, without zeros at the end of a fraction
abbrev pub moment_text : Bool → ASN1DateTime → List ℕ
moment_text is_utc_time t = at_least_digits 4 (full_year is_utc_time t) ++ codes "-" ++ at_least_digits 2 t.month
    ++ codes "-" ++ at_least_digits 2 t.day ++ codes " " ++ at_least_digits 2 t.hour ++ codes ":"
    ++ at_least_digits 2 t.minute ++ codes ":" ++ at_least_digits 2 t.second ++ fraction_text t.nanosecond
    ++ zone_text t.tz

-- octets that are printed as a text: at least two printable characters of ASCII
abbrev pub is_ascii_text : List ℕ → Bool
is_ascii_text w = nat_lt 1 (length w) && list_all is_visible w

-- octets of which no type says more: as an IA5String that they may be, or in hexadecimal digits
abbrev pub octets_text : Limit → List ℕ → List ℕ
octets_text limit [] = []
octets_text limit (b ∷ w) =
    codes " " ++ (if is_ascii_text (b ∷ w) then quoted_text limit 22 (b ∷ w) else hex_text limit (b ∷ w))

-- a BOOLEAN of one octet, or the octets
abbrev pub boolean_text : Limit → List ℕ → List ℕ
boolean_text limit (b ∷ []) = truth_text b
boolean_text limit w = octets_text limit w

-- a REAL of one octet (8.5.9), as X.680 writes it (21.6)
abbrev pub special_text : ℕ → List ℕ
special_text a =
    if a == 0x40 then codes "PLUS-INFINITY" else if a == 0x41 then codes "MINUS-INFINITY"
    else if a == 0x42 then codes "NOT-A-NUMBER" else if a == 0x43 then codes "-0" else hex_pair a

-- a decimal form (8.5.8) is printed as it is where as many octets would be printed whole
abbrev pub is_shown_decimal : Limit → ℕ → List ℕ → Bool
is_shown_decimal limit a w =
    is_within 1 3 a && list_all is_visible w && nat_le (length w) (printed_octets limit (length w))

-- a REAL: 0, a special value, a decimal form, or the octets of another one
abbrev pub real_text : Limit → List ℕ → List ℕ
real_text limit [] = codes "0"
real_text limit (a ∷ w) =
    if length w == 0 then special_text a else if is_shown_decimal limit a w then w else hex_text limit (a ∷ w)

-- the numbers of the types whose value is quoted, and of all others whose value isn't printed as octets
abbrev pub is_quoted_type : ℕ → Bool
is_quoted_type t = is_text_type t || is_one_of (28 ∷ 30 ∷ []) t

abbrev pub is_other_type : ℕ → Bool
is_other_type t = is_one_of (0 ∷ 1 ∷ 2 ∷ 3 ∷ 5 ∷ 6 ∷ 9 ∷ 10 ∷ 13 ∷ 23 ∷ 24 ∷ []) t

-- The text of a content after the name of its universal type, by the type's number, with names of a table of one's own.
pub data IsUniversalValue (own : Option (List Named)) (limit : Limit) (t : ℕ) (w text : List ℕ) : Type 0 where
  -- NULL, and end-of-contents octets: octets, if there are any
  no_value : (t ≡ 0) ⊎ (t ≡ 5) → text ≡ octets_text limit w → IsUniversalValue own limit t w text
  boolean : t ≡ 1 → text ≡ boolean_text limit w → IsUniversalValue own limit t w text
  -- INTEGER and ENUMERATED
  number : (t ≡ 2) ⊎ (t ≡ 10) → text ≡ codes " " ++ number_text limit w → IsUniversalValue own limit t w text
  bits : t ≡ 3 → text ≡ codes " " ++ bits_text limit w → IsUniversalValue own limit t w text
  -- OBJECT IDENTIFIER, and its name
  identifier : t ≡ 6 → (name : Option (List ℕ)) → IsNameAmong own w name
      → text ≡ codes " " ++ identifier_text false w ++ name_text limit name
      → IsUniversalValue own limit t w text
  relative : t ≡ 13 → text ≡ codes " " ++ identifier_text true w → IsUniversalValue own limit t w text
  real : t ≡ 9 → text ≡ codes " " ++ real_text limit w → IsUniversalValue own limit t w text
  -- UTCTime and GeneralizedTime; as a text where there is no such moment, as one with 60 seconds
  moment : (x : ASN1DateTime) → IsTimeText t w x → text ≡ codes " " ++ moment_text (t == 23) x
      → IsUniversalValue own limit t w text
  no_moment : (t ≡ 23) ⊎ (t ≡ 24) → ((x : ASN1DateTime) → ¬ IsTimeText t w x)
      → text ≡ codes " " ++ quoted_text limit t w → IsUniversalValue own limit t w text
  -- strings of characters
  string : IsTrue (is_quoted_type t) → text ≡ codes " " ++ quoted_text limit t w → IsUniversalValue own limit t w text
  -- OCTET STRING, and types without a notation here
  octets : is_quoted_type t ≡ false → is_other_type t ≡ false → text ≡ octets_text limit w
      → IsUniversalValue own limit t w text

-- the text of a content after the name of its type or its tag: outside the universal types it is octets
abbrev pub IsValue : Option (List Named) → Limit → Class → ℕ → List ℕ → List ℕ → Type 0
IsValue own limit Universal t w text = IsUniversalValue own limit t w text
IsValue own limit Application t w text = text ≡ octets_text limit w
IsValue own limit ContextSpecific t w text = text ≡ octets_text limit w
IsValue own limit Private t w text = text ≡ octets_text limit w
