-- Octets in hexadecimal, as the formatter writes them.
use Rattle.std.proofs.Common.{◌≡◌, ◌∙◌, ℕ, ◌+◌, ◌-◌, ◌/◌, ◌%◌, ◌^◌, ◌<◌, false, List, [], ◌∷◌, ◌++◌, length, take, get_or, refl, ap, arith}
use Rattle.std.proofs.lemmas.Bool.Decides.{nat_tests}
use Rattle.std.proofs.lemmas.Fmt.{hex_byte}
use Rattle.std.proofs.lemmas.List.{take_more}
use Rattle.std.specs.Fmt.{digit_glyph, digits, format_spec, padded_integral}
use Rattle.der_base.specs.Pretty.{hex_digit, hex_pair, spaced_hex}

digit_is : (d : ℕ) → digit_glyph false d ≡ hex_digit d
digit_is d = grind (arith, nat_tests)

-- the formatter writes the two digits of an octet
pub pair_is : (b : ℕ) → b < 256 → padded_integral (format_spec 32 0 4 2 (2 ^ 64 - 1)) false [] (digits 16 false b) ≡ hex_pair b
pair_is b h = hex_byte false b h ∙ ap (λ d. d ∷ digit_glyph false (b % 16) ∷ []) (digit_is (b / 16)) ∙ ap (λ d. hex_digit (b / 16) ∷ d ∷ []) (digit_is (b % 16))

pub spaced_append : (v w : List ℕ) → spaced_hex (v ++ w) ≡ spaced_hex v ++ spaced_hex w
spaced_append [] w = refl
spaced_append (b ∷ v) w = ap (λ t. 0x20 ∷ hex_pair b ++ t) (spaced_append v w)

-- one octet more
pub spaced_more : (w : List ℕ) (i : ℕ) → i < length w → spaced_hex (take (i + 1) w) ≡ spaced_hex (take i w) ++ 0x20 ∷ hex_pair (get_or w i 0)
spaced_more w i h = ap spaced_hex (take_more w i 0 h) ∙ spaced_append (take i w) (get_or w i 0 ∷ [])
