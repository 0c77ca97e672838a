-- Numbers in decimal, as Java, Go and Python print octets, and numbers with 0x in the source of a program.
use Rattle.std.specs.Prelude.{ℕ, ◌+◌, ◌-◌, ◌*◌, ◌==◌, ◌&&◌, ◌||◌, not, nat_le, nat_lt, Bool, if◌then◌else◌}
use Rattle.std.specs.Prelude.{Option, Some, None, is_some, List, [], ◌∷◌, length, drop, codes, count_by}
use Rattle.std.specs.Char.{is_ascii_alphanumeric, is_ascii_digit, is_ascii_hexdigit, is_ascii_whitespace}
use Rattle.std.specs.List.{before_first, list_all, list_any, slice_split}
use Rattle.der_input.specs.Marks.{begins_with, is_mark, pair_of}

-- what may be between numbers in decimal
abbrev pub is_between : ℕ → Bool
is_between c = is_ascii_whitespace c || is_mark (codes ",;()[]<>|") c

-- what one to three digits say, and else 1000
abbrev pub value_of : List ℕ → ℕ
value_of (a ∷ []) = a - 0x30
value_of (a ∷ b ∷ []) = 10 * (a - 0x30) + (b - 0x30)
value_of (a ∷ b ∷ c ∷ []) = 100 * (a - 0x30) + 10 * (b - 0x30) + (c - 0x30)
value_of word = 1000

-- the number of a word of digits, of which the first of several isn't 0
abbrev pub is_number : List ℕ → Bool
is_number word = list_all is_ascii_digit word && (length word == 1 || not (begins_with word (codes "0")))

abbrev pub magnitude_of : List ℕ → ℕ
magnitude_of word = if is_number word then value_of word else 1000

-- the octet that a number is: one from 0 to 255, or in two's complement one from -128 to -1
abbrev pub positive_octet : ℕ → Option ℕ
positive_octet n = if nat_lt n 256 then Some n else None

abbrev pub negative_octet : ℕ → Option ℕ
negative_octet n = if nat_lt 0 n && nat_le n 128 then Some (256 - n) else None

abbrev pub octet_of : List ℕ → Option ℕ
octet_of word = if begins_with word (codes "-")
    then negative_octet (magnitude_of (drop 1 word)) else positive_octet (magnitude_of word)

-- its digits; a word that is no such number has itself, which are none where two octets between numbers meet
abbrev pub digits_or : List ℕ → Option ℕ → List ℕ
digits_or word (Some octet) = pair_of octet
digits_or word None = word

abbrev pub digits_of_number : List ℕ → List ℕ
digits_of_number word = digits_or word (octet_of word)

-- A text is numbers in decimal, one of which hexadecimal digits don't have for an octet: it has a sign or three digits.
abbrev pub is_decimal_alone : List ℕ → Bool
is_decimal_alone word = begins_with word (codes "-") || nat_le 3 (length word)

abbrev pub may_be_number : List ℕ → Bool
may_be_number word = length word == 0 || is_some (octet_of word)

abbrev pub are_numbers : List ℕ → Bool
are_numbers text = list_all may_be_number (slice_split is_between text)
    && list_any is_decimal_alone (slice_split is_between text)

-- what ends a word in the source of a program
abbrev pub ends_word : ℕ → Bool
ends_word c = not (is_ascii_alphanumeric c || c == 0x5f)

-- a word of such a text that is a number with 0x, and its digits, which a type may follow
abbrev pub has_prefix : List ℕ → Bool
has_prefix word = begins_with word (codes "0x") || begins_with word (codes "0X")

abbrev pub prefixed_digits : List ℕ → List ℕ
prefixed_digits word = before_first (λ c. not (is_ascii_hexdigit c)) (drop 2 word)

abbrev pub is_prefixed : List ℕ → Bool
is_prefixed word = has_prefix word && nat_lt 0 (length (prefixed_digits word))

-- one of an octet at most, or a word that is none
abbrev pub is_short : List ℕ → Bool
is_short word = not (is_prefixed word) || nat_le (length (prefixed_digits word)) 2

-- A text has one number with 0x, or several of an octet each.
abbrev pub has_numbers : List ℕ → Bool
has_numbers text = count_by is_prefixed (slice_split ends_word text) == 1
    || (nat_lt 0 (count_by is_prefixed (slice_split ends_word text)) && list_all is_short (slice_split ends_word text))
