-- Escaped characters and octets.
use Rattle.std.proofs.Common.{◌≡◌, ◌≤◌, ◌<◌, ◌∷◌, ◌++◌, ◌∙◌, ◌||◌, ◌&&◌, ◌==◌, [], Bool, List, ℕ, ap, arith, drop, false, flat_map, length, not, refl, slice_index, suc, sym, true, zero}
use Rattle.std.specs.Prelude.{map}
use Rattle.std.specs.Str.{IsAscii, chars}
use Rattle.std.proofs.lemmas.Bool.{false≢true}
use Rattle.std.proofs.lemmas.Bool.Decides.{nat_tests}
use Rattle.std.proofs.lemmas.List.{length-map}
use Rattle.std.proofs.lemmas.Str.{chars-IsAscii, encode_ascii}
use Rattle.std.proofs.lemmas.Str.Ascii.{IsAscii-nil}
use Rattle.der_base.specs.Text.{is_within}
use Rattle.der_print.specs.Quotes.{is_hidden}
use Rattle.der_print.specs.declared.pieces.Piece.TheVariants.{Character}
use Rattle.extension_text.specs.Names.Escapes.{IsPlain, character_text, escaped, is_plain, needs_backslash, nothing, octet, pair_text}

pub pairs_more : (w : List ℕ) → 1 ≤ length w → flat_map pair_text w ≡ pair_text (slice_index w 0) ++ flat_map pair_text (drop 1 w)
pairs_more [] some = absurd (omega (arith, some))
pairs_more (b ∷ w) some = refl

pub plain_more : (first : Bool) (w : List ℕ) → 1 ≤ length w → is_plain (slice_index w 0) (first || length (drop 1 w) == 0) first ≡ true
    → IsPlain false (drop 1 w) → IsPlain first w
plain_more first [] some is rest = absurd (omega (arith, some))
plain_more first (b ∷ w) some is rest = octet b w is rest

not_true : (b : Bool) → not b ≡ true → b ≡ false
not_true true e = absurd (false≢true e)
not_true false e = refl

and_true : (a b : Bool) → (a && b) ≡ true → (a ≡ true) × (b ≡ true)
and_true true b e = (refl, e)
and_true false b e = absurd (false≢true e)

within : (b : ℕ) → is_within 0x20 0x7e b ≡ true → (0x20 ≤ b) × (b ≤ 0x7e)
within b e = grind (arith, nat_tests, e)

seen : (b : ℕ) → 0x20 ≤ b → b ≤ 0x7e → is_hidden b ≡ false
seen b low high = grind (arith, nat_tests, low, high)

plain_octet : (b : ℕ) (outermost first : Bool) → is_plain b outermost first ≡ true → (b < 128) × (character_text b outermost first ≡ b ∷ [])
plain_octet b outermost first e =
    let both = and_true (is_within 0x20 0x7e b) (not (needs_backslash b outermost first)) e in
    let bounds = within b both.0 in
    let small : b < 128 = omega (arith, bounds.1) in
    (small, rw (not_true (needs_backslash b outermost first) both.1, seen b bounds.0 bounds.1) (encode_ascii b small))

plain_octets : (first : Bool) (w : List ℕ) → IsPlain first w → escaped first (map (λ b. Character b) w) ≡ w
plain_octets first [] p = refl
plain_octets first (b ∷ w) (octet _ _ e rest) =
    rw (length-map w (λ x. Character x), (plain_octet b (first || length w == 0) first e).1, plain_octets false w rest) refl

plain_is_ascii : (first : Bool) (w : List ℕ) → IsPlain first w → IsAscii w
plain_is_ascii first [] p i = IsAscii-nil i
plain_is_ascii first (b ∷ w) (octet _ _ e rest) zero = (plain_octet b (first || length w == 0) first e).0
plain_is_ascii first (b ∷ w) (octet _ _ e rest) (suc i) = plain_is_ascii false w rest i

-- a text that needs no escape is its own
pub plain_text : (w : List ℕ) → IsPlain true w → escaped true (map (λ c. Character c) (chars w)) ≡ w
plain_text w p = ap (λ s. escaped true (map (λ c. Character c) s)) (chars-IsAscii w (plain_is_ascii true w p)) ∙ plain_octets true w p
