-- Strings with escapes, as C, Go, Java, Python and Rust write octets (C11 6.4.4.4, 6.4.5).
use Rattle.std.specs.Prelude.{ℕ, zero, suc, ◌+◌, ◌-◌, ◌*◌, ◌==◌, ◌&&◌, ◌||◌, nat_le, nat_lt, Bool, false}
use Rattle.std.specs.Prelude.{if◌then◌else◌, Option, Some, None, is_some, List, [], ◌∷◌, ◌++◌, length, drop, codes}
use Rattle.std.specs.Prelude.{find, slice_index}
use Rattle.std.specs.Char.{is_ascii_hexdigit}
use Rattle.std.specs.List.{after_first, before_first, list_all, position_or_len}
use Rattle.der_input.specs.Marks.{begins_with, pair_of}

-- a backslash, x and two hexadecimal digits
abbrev pub begins_hex : List ℕ → Bool
begins_hex text = begins_with text (codes "\\x") && nat_lt 3 (length text)
    && is_ascii_hexdigit (slice_index text 2) && is_ascii_hexdigit (slice_index text 3)

-- a backslash and three octal digits, of at most 377
abbrev pub is_octal : ℕ → Bool
is_octal c = nat_le 0x30 c && nat_le c 0x37

abbrev pub begins_octal : List ℕ → Bool
begins_octal text = begins_with text (codes "\\") && nat_lt 3 (length text)
    && is_octal (slice_index text 1) && nat_lt (slice_index text 1) 0x34
    && is_octal (slice_index text 2) && is_octal (slice_index text 3)

abbrev pub octal_of : List ℕ → ℕ
octal_of text = 64 * (slice_index text 1 - 0x30) + 8 * (slice_index text 2 - 0x30) + (slice_index text 3 - 0x30)

-- whether a text begins with one of these, and has one
abbrev pub begins_escape : List ℕ → Bool
begins_escape text = begins_hex text || begins_octal text

abbrev pub has_escape : List ℕ → Bool
has_escape [] = false
has_escape (c ∷ text) = begins_escape (c ∷ text) || has_escape text

abbrev pub is_ascii : ℕ → Bool
is_ascii c = nat_lt c 0x80

abbrev pub is_escaped : List ℕ → Bool
is_escaped text = list_all is_ascii text && has_escape text

-- the digits of what a backslash and another octet stand for; a line's end stands for nothing, and a backslash that has
-- no meaning for itself, which is no digit
abbrev pub simple_digits : ℕ → List ℕ
simple_digits c =
    if c == 0x6e then codes "0a" else if c == 0x72 then codes "0d" else if c == 0x74 then codes "09"
    else if c == 0x30 then codes "00" else if c == 0x61 then codes "07" else if c == 0x62 then codes "08"
    else if c == 0x66 then codes "0c" else if c == 0x76 then codes "0b" else if c == 0x5c then codes "5c"
    else if c == 0x22 then codes "22" else if c == 0x27 then codes "27" else if c == 0x3f then codes "3f"
    else if c == 0x0a || c == 0x0d then [] else codes "\\"

-- whether a text begins with the quote that a string is in
abbrev pub begins_quote : Option ℕ → List ℕ → Bool
begins_quote (Some quote) text = begins_with text (quote ∷ [])
begins_quote None text = false

-- The first part of a string: an escape, a character, or the end of a string with all that is before the next one. How
-- many octets it has, and the digits of the octet that it stands for.
abbrev pub part_size : Option ℕ → List ℕ → ℕ
part_size quote text =
    if begins_escape text then 4
    else if begins_with text (codes "\\") then 2
    else if begins_quote quote text then 2 + position_or_len (λ c. c == slice_index text 0) (drop 1 text) else 1

abbrev pub part_digits : Option ℕ → List ℕ → List ℕ
part_digits quote text =
    if begins_hex text then slice_index text 2 ∷ slice_index text 3 ∷ []
    else if begins_octal text then pair_of (octal_of text)
    else if begins_with text (codes "\\") then simple_digits (slice_index text 1)
    else if begins_quote quote text || slice_index text 0 == 0x0a || slice_index text 0 == 0x0d then []
    else pair_of (slice_index text 0)

-- The digits of a string, from k octets on. One in quotes that isn't closed ends in what is no digit.
abbrev pub digits_from : Option ℕ → ℕ → List ℕ → List ℕ
digits_from quote (suc k) [] = []
digits_from quote zero [] = if is_some quote then codes "\\" else []
digits_from quote (suc k) (c ∷ text) = digits_from quote k text
digits_from quote zero (c ∷ text) =
    part_digits quote (c ∷ text) ++ digits_from quote (part_size quote (c ∷ text) - 1) text

-- the quote that begins the first string: the first one, if no backslash is before it
abbrev pub is_quote : ℕ → Bool
is_quote c = c == 0x22 || c == 0x27

abbrev pub quote_of : List ℕ → Option ℕ
quote_of text = find is_quote (before_first (λ c. c == 0x5c) text)

-- the digits of a text: of its strings in quotes, or else of all of it
abbrev pub string_digits : Option ℕ → List ℕ → List ℕ
string_digits (Some quote) text = digits_from (Some quote) 0 (after_first (λ c. c == quote) text)
string_digits None text = digits_from None 0 text

abbrev pub escaped_digits : List ℕ → List ℕ
escaped_digits text = string_digits (quote_of text) text
