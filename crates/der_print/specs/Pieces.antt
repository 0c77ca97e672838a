-- What is left of a string that is read character after character.
use Rattle.std.specs.Prelude.{◌≡◌, Option, List, [], ◌∷◌, map, MatchOption}
use Rattle.std.specs.Char.Utf16.{utf16_lossy_chars}
use Rattle.std.specs.Str.{chars}
use Rattle.der_base.specs.Text.{units}
use Rattle.der_print.specs.declared.pieces.Characters.{Characters}
use Rattle.der_print.specs.declared.pieces.Characters.TheVariants.{Utf8, Latin1, Utf16, Utf32, Octets}
use Rattle.der_print.specs.declared.pieces.Piece.{Piece}
use Rattle.der_print.specs.declared.pieces.Piece.TheVariants.{Character, Octet}
use Rattle.der_print.specs.Quotes.{utf32_lossy_chars}

-- the characters that are left
abbrev pub pieces_left : Characters → List Piece
pieces_left (Utf8 s) = map (λ c. Character c) (chars s.now)
pieces_left (Latin1 w) = map (λ b. Character b) w.now
pieces_left (Utf16 w) = map (λ c. Character c) (utf16_lossy_chars (units w.now))
pieces_left (Utf32 w) = map (λ c. Character c) (utf32_lossy_chars w.now)
pieces_left (Octets w) = map (λ b. Octet b) w.now

-- the first of some characters and the others, or none
abbrev pub BeginsWith : Option (Piece × Characters) → List Piece → Type 0
BeginsWith r ps = MatchOption r (ps ≡ []) (λ p. ps ≡ p.0 ∷ pieces_left p.1)
