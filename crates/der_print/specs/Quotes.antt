-- Texts in quotes.
use Rattle.std.specs.Prelude.{ℕ, ◌-◌, ◌==◌, ◌||◌, ◌&&◌, not, nat_le, nat_lt, if◌then◌else◌, Bool, false}
use Rattle.std.specs.Prelude.{List, [], ◌∷◌, ◌++◌, codes, decimal, encode_utf8, length, map, take}
use Rattle.std.specs.Char.Utf16.{utf16_lossy_chars}
use Rattle.std.specs.Fmt.{digits}
use Rattle.std.specs.Int.{from_be_bytes, w32}
use Rattle.std.specs.List.{concat}
use Rattle.std.specs.Str.{chars, is_utf8}
use Rattle.der_base.specs.Pretty.{hex_pair}
use Rattle.der_base.specs.Text.{is_within, units}
use Rattle.der_print.specs.declared.pieces.Piece.{Piece}
use Rattle.der_print.specs.declared.pieces.Piece.TheVariants.{Character, Octet}
use Rattle.der_print.specs.declared.style.Limit.{Limit}
use Rattle.der_print.specs.declared.style.Limit.TheVariants.{Whole, Front, Columns}

-- control characters, and characters that can't be seen or turn the direction of a text: those that are ignored where
-- they can't be shown (Unicode's Default_Ignorable_Code_Point), the separators of lines, and marks of notes
abbrev pub is_hidden : ℕ → Bool
is_hidden c =
    is_within 0 0x1f c || is_within 0x7f 0x9f c || c == 0xad || c == 0x34f || c == 0x61c || is_within 0x115f 0x1160 c
    || is_within 0x17b4 0x17b5 c || is_within 0x180b 0x180f c || is_within 0x200b 0x200f c || is_within 0x2028 0x202e c
    || is_within 0x2060 0x206f c || c == 0x3164 || is_within 0xfe00 0xfe0f c || c == 0xfeff || c == 0xffa0
    || is_within 0xfff0 0xfffb c || is_within 0x1bca0 0x1bca3 c || is_within 0x1d173 0x1d17a c
    || is_within 0xe0000 0xe0fff c

-- ASCII that is written as it is
abbrev pub is_plain : ℕ → Bool
is_plain b = is_within 0x20 0x7e b && not (b == 0x22) && not (b == 0x5c)

-- a character that is written as it is
abbrev pub is_unescaped : ℕ → Bool
is_unescaped c = not (c == 0x22) && not (c == 0x5c) && not (is_hidden c)

-- a character by its number
abbrev pub code_text : ℕ → List ℕ
code_text c = codes "\\u{" ++ digits 16 false c ++ codes "}"

-- a character of a quoted text
abbrev pub character_text : ℕ → List ℕ
character_text c =
    if c == 0x22 then codes "\\\"" else if c == 0x5c then codes "\\\\" else if c == 0x0a then codes "\\n"
    else if c == 0x0d then codes "\\r" else if c == 0x09 then codes "\\t"
    else if is_hidden c then code_text c else encode_utf8 c

-- an octet of a text that isn't UTF-8
abbrev pub octet_text : ℕ → List ℕ
octet_text b = if nat_lt b 0x80 then character_text b else codes "\\x" ++ hex_pair b

-- the code of a character
abbrev pub is_scalar : ℕ → Bool
is_scalar n = nat_lt n 0xd800 || is_within 0xe000 0x10ffff n

-- the character with this code, or U+FFFD if there is none
abbrev pub character_of : ℕ → ℕ
character_of n = if is_scalar n then n else 0xfffd

-- the characters of UTF-32, big endian
abbrev pub utf32_lossy_chars : List ℕ → List ℕ
utf32_lossy_chars (a ∷ b ∷ c ∷ d ∷ w) =
    character_of (from_be_bytes w32 (a ∷ b ∷ c ∷ d ∷ [])) ∷ utf32_lossy_chars w
utf32_lossy_chars _ = []

-- the characters of a string that isn't UTF-8: those of a T61String are Latin 1, and of any other there are octets
abbrev pub other_pieces : ℕ → List ℕ → List Piece
other_pieces t w = if t == 20 then map (λ b. Character b) w else map (λ b. Octet b) w

-- the characters of a string, by the number of its type: a BMPString is UTF-16, a UniversalString UTF-32, and any other
-- UTF-8, if it is that
abbrev pub pieces : ℕ → List ℕ → List Piece
pieces t w =
    if t == 30 then map (λ c. Character c) (utf16_lossy_chars (units w))
    else if t == 28 then map (λ c. Character c) (utf32_lossy_chars w)
    else if is_utf8 w then map (λ c. Character c) (chars w) else other_pieces t w

-- a character or an octet of a quoted text
abbrev pub piece_text : Piece → List ℕ
piece_text (Character c) = character_text c
piece_text (Octet b) = octet_text b

-- a character as it is
abbrev pub plain_text : Piece → List ℕ
plain_text (Character c) = encode_utf8 c
plain_text (Octet b) = octet_text b

-- how many characters are printed of so many octets, which no text has more of
abbrev pub printed_characters : Limit → ℕ → ℕ
printed_characters Whole n = n
printed_characters Front n = 120
printed_characters (Columns columns) n =
    if nat_le n (columns - 3) then n else if nat_lt columns 30 then columns - 6 else columns - 20

-- how many octets a value has of which a part is printed, where there are at least so many columns for both
abbrev pub octets_said : ℕ → Limit → ℕ → List ℕ
octets_said least Whole n = codes " (" ++ decimal n ++ codes " octets)"
octets_said least Front n = codes " (" ++ decimal n ++ codes " octets)"
octets_said least (Columns columns) n =
    if nat_lt columns least then [] else codes " (" ++ decimal n ++ codes " octets)"

-- a string in quotes, or the first characters of it and how many octets it has
abbrev pub quoted_text : Limit → ℕ → List ℕ → List ℕ
quoted_text limit t w = let texts = map piece_text (pieces t w) in let n = printed_characters limit (length w) in
    codes "\"" ++ concat (take n texts)
    ++ (if nat_le (length texts) n then codes "\"" else codes "...\"" ++ octets_said 30 limit (length w))

-- the characters of a string as they are
abbrev pub unquoted_text : ℕ → List ℕ → List ℕ
unquoted_text t w = concat (map plain_text (pieces t w))
