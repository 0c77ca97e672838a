-- Hexadecimal digits and base64, with what people have between them.
use Rattle.std.specs.Prelude.{ℕ, zero, suc, ◌+◌, ◌/◌, ◌==◌, ◌&&◌, ◌||◌, not, nat_lt, nat_le, Bool, if◌then◌else◌}
use Rattle.std.specs.Prelude.{List, [], ◌∷◌, ◌++◌, length, take, drop, codes, count_by, find, slice_index, unwrap_or}
use Rattle.std.specs.Prelude.{Option, Some, None, filter}
use Rattle.std.specs.Char.{is_ascii_alphanumeric, is_ascii_hexdigit, is_ascii_whitespace}
use Rattle.std.specs.List.{after_first, before_first, flat_map, list_all, list_any, position_or_len, range_with_len}
use Rattle.std.specs.List.{slice_split}
use Rattle.std.specs.Option.{option_and_then, option_or}
use Rattle.der_input.specs.declared.notation.Notation.{Notation}
use Rattle.der_input.specs.declared.notation.Notation.TheVariants.{Base64, Decimal, Digits, Dump, Escapes, Prefixed}
use Rattle.der_input.specs.Escapes.{escaped_digits, is_escaped}
use Rattle.der_input.specs.Marks.{begins_with, first_place, has_needle, has_octet, is_mark, is_separator}
use Rattle.der_input.specs.Numbers.{are_numbers, digits_of_number, ends_word, has_numbers, has_prefix, is_between}
use Rattle.der_input.specs.Numbers.{is_prefixed, prefixed_digits}

-- the part of a text in braces, as of an array in C, or all of it where there are none
abbrev pub in_braces : List ℕ → List ℕ
in_braces text = if has_octet 0x7b text
    then before_first (λ c. c == 0x7d) (after_first (λ c. c == 0x7b) text) else text

-- the digits of a word: without 0x before them, and two for a single one
abbrev pub without_prefix : List ℕ → List ℕ
without_prefix word = if has_prefix word then drop 2 word else word

abbrev pub padded : List ℕ → List ℕ
padded digits = if length digits == 1 then 0x30 ∷ digits else digits

abbrev pub digits_of_word : List ℕ → List ℕ
digits_of_word word = padded (without_prefix word)

-- what follows the white space at the begin
abbrev pub without_margin : List ℕ → List ℕ
without_margin line = drop (position_or_len (λ c. not (is_ascii_whitespace c)) line) line

-- the end of the offset at the begin of a line
abbrev pub ends_offset : ℕ → Bool
ends_offset c = is_ascii_whitespace c || c == 0x3a

-- A text is a hex dump if it begins with the offset 0, in four digits at least.
abbrev pub begins_with_zero : List ℕ → Bool
begins_with_zero text = let n = position_or_len (λ c. not (c == 0x30)) text in
    nat_le 4 n && nat_lt n (length text) && ends_offset (slice_index text n)

abbrev pub is_dump : List ℕ → Bool
is_dump text = begins_with_zero (without_margin text)

-- a line of a dump behind its offset, or the line itself where another word begins it
abbrev pub behind_offset : List ℕ → List ℕ
behind_offset line = if list_all is_ascii_hexdigit (before_first ends_offset line)
    then after_first ends_offset line else line

-- The octets as characters begin at k: a gap of two spaces is behind digits, and behind it are no more characters than
-- there are pairs of digits, and a bar on either side.
abbrev pub begins_characters : List ℕ → ℕ → Bool
begins_characters line k = begins_with (drop k line) (codes "  ")
    && nat_lt 0 (count_by is_ascii_hexdigit (take k line))
    && nat_le (length (without_margin (drop k line))) (count_by is_ascii_hexdigit (take k line) / 2 + 2)

-- what is before them
abbrev pub before_characters : List ℕ → List ℕ
before_characters line =
    take (unwrap_or (find (begins_characters line) (range_with_len 0 (length line))) (length line)) line

-- the digits of a line of a dump
abbrev pub digits_of_line : List ℕ → List ℕ
digits_of_line line = filter (λ c. not (is_separator c)) (before_characters (behind_offset (without_margin line)))

-- whether a text is hexadecimal digits and what may be between them
abbrev pub is_hex : ℕ → Bool
is_hex c = is_ascii_hexdigit c || is_separator c || is_mark (codes "xX") c

abbrev pub are_digits : List ℕ → Bool
are_digits i = list_any is_ascii_hexdigit i && list_all is_hex i

-- the digits of a word in the source of a program
abbrev pub digits_of_source : List ℕ → List ℕ
digits_of_source word = if is_prefixed word then padded (prefixed_digits word) else []

-- what follows `data:` and a comma (RFC 2397)
abbrev pub without_address : List ℕ → List ℕ
without_address text = if begins_with text (codes "data:") then after_first (λ c. c == 0x2c) text else text

-- base64 of either alphabet (RFC 4648 4, 5), and what may be between its characters
abbrev pub is_base64 : ℕ → Bool
is_base64 c = is_ascii_alphanumeric c || is_ascii_whitespace c || is_mark (codes "+/-_=\"',;\\") c

abbrev pub is_base64_text : List ℕ → Bool
is_base64_text i = list_all is_base64 (without_address i)

-- A text is in the first of these notations that it may be in.
abbrev pub notation_of : List ℕ → Option Notation
notation_of i =
    if is_dump i then Some Dump
    else if is_escaped i then Some Escapes
    else if are_numbers (in_braces i) then Some Decimal
    else if are_digits (in_braces i) then Some Digits
    else if is_base64_text i then Some Base64
    else if has_numbers i then Some Prefixed
    else None

-- the hexadecimal digits of a text: those of each line of a dump, of each number, or else of each word
abbrev pub digits_in : Option Notation → List ℕ → List ℕ
digits_in (Some Dump) text = flat_map digits_of_line (slice_split (λ c. c == 0x0a) text)
digits_in (Some Escapes) text = escaped_digits text
digits_in (Some Decimal) text = flat_map digits_of_number (slice_split is_between (in_braces text))
digits_in (Some Prefixed) text = flat_map digits_of_source (slice_split ends_word text)
digits_in notation text = flat_map digits_of_word (slice_split is_separator (in_braces text))

abbrev pub digits_of : List ℕ → List ℕ
digits_of text = digits_in (notation_of text) text

-- the headers of a block of PEM end with an empty line (RFC 1421 4.4), which may be in escapes, as JSON has it
abbrev pub behind_headers : List ℕ → ℕ → ℕ → Option (List ℕ)
behind_headers text place end = if has_needle (take place text) (codes ": ") then Some (drop end text) else None

abbrev pub behind_line : List ℕ → List ℕ → Option (List ℕ)
behind_line text line = option_and_then (λ k. behind_headers text k (k + length line)) (first_place text line)

abbrev pub without_headers : List ℕ → List ℕ
without_headers text = unwrap_or (option_or (behind_line text (codes "\n\n"))
    (option_or (behind_line text (codes "\n\r\n")) (behind_line text (codes "\\n\\n")))) text

-- what is passed over in base64: white space, quotes, commas, semicolons, and the mark that a mail has before a line
abbrev pub is_character : ℕ → Bool
is_character c = not (is_ascii_whitespace c || is_mark (codes "\"'>,;") c)

-- the character of the standard alphabet with the value of one for addresses (RFC 4648 4, 5)
abbrev pub standard_character : ℕ → ℕ
standard_character c = if c == 0x2d then 0x2b else (if c == 0x5f then 0x2f else c)

abbrev pub character_of : ℕ → List ℕ
character_of c = if is_character c then standard_character c ∷ [] else []

-- whether a text begins with the end of a line in an escape, as JSON has it
abbrev pub begins_break : List ℕ → Bool
begins_break text = begins_with text (codes "\\n") || begins_with text (codes "\\r")

-- the characters of base64, all of the standard alphabet, from k octets on
abbrev pub characters_from : ℕ → List ℕ → List ℕ
characters_from k [] = []
characters_from (suc k) (c ∷ text) = characters_from k text
characters_from zero (c ∷ text) = if begins_break (c ∷ text) then characters_from 1 text
    else character_of c ++ characters_from 0 text

-- the part of a text that has characters of base64
abbrev pub body_of : List ℕ → List ℕ
body_of text = without_headers (without_address text)

abbrev pub characters_of : List ℕ → List ℕ
characters_of text = characters_from 0 (body_of text)
