-- The values of attributes as RFC 4514 writes them (2.4).
use Rattle.std.specs.Prelude.{◌≡◌, ℕ, ◌==◌, ◌||◌, ◌&&◌, not, nat_lt, Bool, true, false, if◌then◌else◌}
use Rattle.std.specs.Prelude.{List, [], ◌∷◌, ◌++◌, codes, encode_utf8, flat_map, length}
use Rattle.der_base.specs.Pretty.{hex_pair}
use Rattle.der_base.specs.Text.{is_one_of, is_within}
use Rattle.der_print.specs.Quotes.{is_hidden}
use Rattle.der_print.specs.declared.pieces.Piece.{Piece}
use Rattle.der_print.specs.declared.pieces.Piece.TheVariants.{Character, Octet}

-- a backslash and an octet in two hexadecimal digits
abbrev pub pair_text : ℕ → List ℕ
pair_text b = codes "\\" ++ hex_pair b

-- characters that have a meaning in names: " + , ; < > \
abbrev pub is_special : ℕ → Bool
is_special c = is_one_of (0x22 ∷ 0x2b ∷ 0x2c ∷ 0x3b ∷ 0x3c ∷ 0x3e ∷ 0x5c ∷ []) c

-- a space needs a backslash at the start and the end of a value, and # at the start
abbrev pub needs_backslash : ℕ → Bool → Bool → Bool
needs_backslash c outermost first = is_special c || ((c == 0x20) && outermost || (c == 0x23) && first)

-- a character: one that can't be seen, or turns the text, as the octets that it has in UTF-8
abbrev pub character_text : ℕ → Bool → Bool → List ℕ
character_text c outermost first =
    if needs_backslash c outermost first then codes "\\" ++ encode_utf8 c
    else if is_hidden c then flat_map pair_text (encode_utf8 c) else encode_utf8 c

-- an octet of a string that isn't UTF-8
abbrev pub octet_text : ℕ → Bool → Bool → List ℕ
octet_text b outermost first = if nat_lt b 0x80 then character_text b outermost first else pair_text b

abbrev pub piece_text : Piece → Bool → Bool → List ℕ
piece_text (Character c) outermost first = character_text c outermost first
piece_text (Octet b) outermost first = octet_text b outermost first

-- a value, at whose start the characters are or aren't
abbrev pub escaped : Bool → List Piece → List ℕ
escaped first [] = []
escaped first (p ∷ ps) = piece_text p (first || length ps == 0) first ++ escaped false ps

-- ASCII that is written as it is
abbrev pub is_plain : ℕ → Bool → Bool → Bool
is_plain b outermost first = is_within 0x20 0x7e b && not (needs_backslash b outermost first)

pub data IsPlain : Bool → List ℕ → Type 0 where
  nothing : {first : Bool} → IsPlain first []
  octet : {first : Bool} (b : ℕ) (w : List ℕ) → is_plain b (first || length w == 0) first ≡ true → IsPlain false w
      → IsPlain first (b ∷ w)
