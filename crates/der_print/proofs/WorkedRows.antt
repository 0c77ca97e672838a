-- What precedes the value, computed on worked elements: those of a certificate, a tag of another class, an element of
-- indefinite length far from the start, with colours.
use Rattle.std.proofs.Common.{◌≡◌, ◌∷◌, ◌++◌, ℕ, Bool, true, false, [], refl, codes, Some, None, Option, pos, negsuc}
use Rattle.std.specs.Fmt.{char_count, digits, take_chars}
use Rattle.der_base.specs.declared.header.Class.{Class}
use Rattle.der_base.specs.declared.header.Class.TheVariants.{Universal, Application, ContextSpecific, Private}
use Rattle.der_base.specs.declared.time.ASN1TimeZone.TheVariants.{Offset}
use Rattle.hex.specs.Hex.{encode_with}
use Rattle.der_print.specs.declared.style.Limit.TheVariants.{Whole, Columns}
use Rattle.der_print.specs.Cuts.{cut}
use Rattle.der_print.specs.Lines.{front_text, indentation}
use lib.Utf8.{encode}
use Rattle.std.specs.Char.Utf16.{utf16_chars}
use Rattle.std.specs.Str.{chars, is_utf8}
use Rattle.der_print.specs.Quotes.{character_text, quoted_text}
use Rattle.der_contents.specs.declared.content_error.ContentError.TheVariants as errors
use Rattle.der_print.specs.Remarks.{rule_of_content}
use Rattle.der_print.specs.Values.{boolean_text, identifier_text, number_text, octets_text, real_text, zone_text}
use Rattle.der_elements.specs.Visits.{Visited}

abbrev visited : ℕ → ℕ → Option ℕ → Class → Bool → ℕ → ℕ → Visited
visited offset header l c p t depth =
    record { offset = offset; header = header; length = l; class = c; constructed = p; number = t; depth = depth; holds = None; breaks_its_type = false }

certificate : front_text false Whole [] (visited 0 4 (Some 515) Universal true 16 0) ≡ codes "      0  4+515     SEQUENCE"
unfolding digits
certificate = refl

version : front_text false Whole [] (visited 10 2 (Some 1) Universal false 2 3) ≡ codes "     10  2+1             INTEGER"
unfolding digits
version = refl

extensions : front_text false Whole [] (visited 271 3 (Some 158) ContextSpecific true 3 2) ≡ codes "    271  3+158         [3]"
unfolding digits
extensions = refl

indefinite : front_text false Whole [] (visited 123456789 2 None Application true 1 1) ≡ codes "123456789  2+inf       [APPLICATION 1]"
unfolding digits
indefinite = refl

field : front_text false Whole (codes "extensions") (visited 271 3 (Some 158) ContextSpecific true 3 2)
    ≡ codes "    271  3+158         extensions [3]"
unfolding digits
field = refl

type_without_name : front_text false Whole [] (visited 7 3 (Some 0) Universal false 99 0) ≡ codes "      7  3+0       [UNIVERSAL 99]"
unfolding digits
type_without_name = refl

in_colours : front_text true Whole [] (visited 2 2 (Some 1) Private false 7 0)
    ≡ 0x1b ∷ codes "[2m      2  2+1       " ++ 0x1b ∷ codes "[0m" ++ 0x1b ∷ codes "[1m[PRIVATE 7]" ++ 0x1b ∷ codes "[0m"
unfolding digits
in_colours = refl

field_in_colours : front_text true Whole (codes "version") (visited 2 2 (Some 1) Private false 7 0)
    ≡ 0x1b ∷ codes "[2m      2  2+1       " ++ 0x1b ∷ codes "[0mversion " ++ 0x1b ∷ codes "[1m[PRIVATE 7]" ++ 0x1b ∷ codes "[0m"
unfolding digits
field_in_colours = refl

-- values: a number above 64 bits, the arcs of a relative identifier, half an hour west
large : number_text Whole (0x01 ∷ 0 ∷ 0 ∷ 0 ∷ 0 ∷ 0 ∷ 0 ∷ 0 ∷ 0 ∷ []) ≡ codes "0x010000000000000000"
unfolding digits encode_with
large = refl

below : number_text Whole (0xff ∷ 0x7f ∷ []) ≡ codes "-129"
unfolding digits
below = refl

relative : identifier_text true (1 ∷ 2 ∷ 3 ∷ []) ≡ codes ".1.2.3"
unfolding digits
relative = refl

west : zone_text (Offset (pos 0) (negsuc 29)) ≡ codes " -00:30"
unfolding digits
west = refl

other_truth : boolean_text Whole (1 ∷ []) ≡ codes " TRUE (01)"
other_truth = refl

-- REAL: 0, a special value, 15 * 10^-1 in the form NR3 (8.5.8), 5 * 2^-3 (8.5.7)
zero : real_text Whole [] ≡ codes "0"
zero = refl

infinity : real_text Whole (0x41 ∷ []) ≡ codes "MINUS-INFINITY"
infinity = refl

decimal_real : real_text Whole (3 ∷ codes "15.E-1") ≡ codes "15.E-1"
decimal_real = refl

binary_real : real_text Whole (0x80 ∷ 0xfd ∷ 5 ∷ []) ≡ codes "80fd05"
unfolding encode_with
binary_real = refl

-- texts: marks that turn the direction, UTF-16 with a pair, the cut, octets that are one character, a remark
direction : character_text 0x202e ≡ codes "\\u{202e}"
unfolding digits
direction = refl

pair : quoted_text Whole 30 (0x00 ∷ 0x61 ∷ 0xd8 ∷ 0x3d ∷ 0xde ∷ 0x00 ∷ []) ≡ codes "\"a" ++ 0xf0 ∷ 0x9f ∷ 0x98 ∷ 0x80 ∷ codes "\""
unfolding utf16_chars encode
pair = refl

first : quoted_text (Columns 30) 22 (codes "abcdefghijklmnopqrstuvwxyz-123") ≡ codes "\"abcdefghij...\" (30 octets)"
unfolding chars digits is_utf8 encode
first = refl

fewer : quoted_text (Columns 12) 22 (codes "abcdefghijkl") ≡ codes "\"abcdef...\""
unfolding chars digits is_utf8 encode
fewer = refl

-- a type that is cut, and two columns
type_cut : cut (Columns 9) (codes "OCTET STRING") ≡ codes "OCTET ..."
unfolding char_count take_chars
type_cut = refl

two_columns : cut (Columns 2) (codes " 05") ≡ codes ".."
unfolding char_count take_chars
two_columns = refl

-- a line of 40 columns has 10 spaces before the type at most
deep : indentation (Columns 40) 9 ≡ codes "          "
deep = refl

one_octet : octets_text Whole (0x61 ∷ []) ≡ codes " 61"
unfolding encode_with
one_octet = refl

two_octets : octets_text Whole (0x61 ∷ 0x62 ∷ []) ≡ codes " \"ab\""
unfolding chars is_utf8 encode
two_octets = refl

remark : rule_of_content errors.CharacterOutside 19 (codes "a*") ≡ codes "an octet is outside of the character set: * (X.690 8.23)"
unfolding encode
remark = refl
