-- The characters of strings.
use Rattle.std.proofs.Common.{◌≡◌, ◌≢◌, ◌∙◌, ◌==◌, ◌∷◌, ◌+◌, ◌-◌, ◌*◌, ◌<◌, ◌≤◌, ◌&&◌, [], Bool, List, Some, None, ap, drop, false, length, suc, take, true, ℕ, arith, refl, sym}
use Rattle.std.specs.Prelude.{IsUtf8, if◌then◌else◌, map, slice_index}
use Rattle.std.proofs.Math.Seq.{take-length}
use Rattle.std.specs.Str.{chars, is_utf8}
use Rattle.std.specs.Option.{unwrap_or}
use Rattle.std.specs.Char.Utf16.{is_high_surrogate, is_low_surrogate, lone_unit_char, surrogate_pair_char, utf16_chars, utf16_lossy_chars}
use Rattle.std.proofs.lemmas.Bool.Decides.{nat_tests}
use Rattle.std.proofs.lemmas.Str.{IsUtf8-from_is_utf8, is_utf8-from_IsUtf8}
use Rattle.der_print.specs.declared.pieces.Piece.TheVariants.{Character, Octet}
use Rattle.der_base.specs.Text.{units}
use Rattle.der_print.specs.Quotes.{character_of, other_pieces, pieces, utf32_lossy_chars}

-- a unit that is in no pair
pub lone_character : (u : ℕ) → u < 0x1_0000 → unwrap_or (lone_unit_char u) 0xfffd ≡ character_of u
lone_character u small = grind (arith, nat_tests)

pub none_lossy : utf16_lossy_chars [] ≡ []
unfolding utf16_chars
none_lossy = refl

pub last_lossy : (u : ℕ) → u < 0x1_0000 → utf16_lossy_chars (u ∷ []) ≡ character_of u ∷ []
unfolding utf16_chars
last_lossy u small = rw (lone_character u small) refl

pub lone_lossy : (u v : ℕ) (us : List ℕ) → u < 0x1_0000 → (is_high_surrogate u && is_low_surrogate v) ≡ false
    → utf16_lossy_chars (u ∷ v ∷ us) ≡ character_of u ∷ utf16_lossy_chars (v ∷ us)
unfolding utf16_chars
lone_lossy u v us small alone = rw (alone, lone_character u small) refl

pub pair_lossy : (u v : ℕ) (us : List ℕ) → (is_high_surrogate u && is_low_surrogate v) ≡ true
    → utf16_lossy_chars (u ∷ v ∷ us) ≡ surrogate_pair_char u v ∷ utf16_lossy_chars us
unfolding utf16_chars
pair_lossy u v us pair = rw pair refl

-- by the number of the type
pub utf8_pieces : (t : ℕ) (w : List ℕ) → t ≢ 30 → t ≢ 28 → IsUtf8 w → map (λ c. Character c) (chars w) ≡ pieces t w
utf8_pieces t w bmp universal utf8 =
    let not_bmp : (t == 30) ≡ false = grind (arith, nat_tests) in
    let not_universal : (t == 28) ≡ false = grind (arith, nat_tests) in
    rw (not_bmp, not_universal, is_utf8-from_IsUtf8 w utf8) refl

pub not_true : (b : Bool) → ¬ (b ≡ true) → b ≡ false
not_true true h = absurd (h refl)
not_true false h = refl

pub other_pieces_are : (t : ℕ) (w : List ℕ) → t ≢ 30 → t ≢ 28 → ¬ IsUtf8 w → other_pieces t w ≡ pieces t w
other_pieces_are t w bmp universal none =
    let not_bmp : (t == 30) ≡ false = grind (arith, nat_tests) in
    let not_universal : (t == 28) ≡ false = grind (arith, nat_tests) in
    rw (not_bmp, not_universal, not_true (is_utf8 w) (λ h. none (IsUtf8-from_is_utf8 w h))) refl

-- fewer octets than a character has
pub short_units : (w : List ℕ) → length w < 2 → [] ≡ map (λ c. Character c) (utf16_lossy_chars (units w))
short_units [] h = ap (map (λ c. Character c)) (sym none_lossy)
short_units (a ∷ []) h = ap (map (λ c. Character c)) (sym none_lossy)
short_units (a ∷ b ∷ w) h = absurd (omega arith)

pub short_codes : (w : List ℕ) → length w < 4 → [] ≡ map (λ c. Character c) (utf32_lossy_chars w)
short_codes [] h = refl
short_codes (a ∷ []) h = refl
short_codes (a ∷ b ∷ []) h = refl
short_codes (a ∷ b ∷ c ∷ []) h = refl
short_codes (a ∷ b ∷ c ∷ d ∷ w) h = absurd (omega arith)

some_of : (b : Bool) (x y : ℕ) → Some x ≡ (if b then Some y else None) → (b ≡ true) × (x ≡ y)
some_of true x y e = (refl, cc)
some_of false x y e = cc

none_of : (b : Bool) (y : ℕ) → None ≡ (if b then Some y else None) → b ≡ false
none_of true y e = cc
none_of false y e = refl

-- the unit u, and what follows it
pub pair_goes : (u v x : ℕ) (w : List ℕ) → 2 ≤ length w → v ≡ slice_index w 0 * 256 + slice_index w 1
    → Some x ≡ (if is_high_surrogate u && is_low_surrogate v then Some (surrogate_pair_char u v) else None)
    → utf16_lossy_chars (u ∷ units w) ≡ x ∷ utf16_lossy_chars (units (take (length w - 2) (drop 2 w)))
pair_goes u v x [] long e is = absurd (omega arith)
pair_goes u v x (a ∷ []) long e is = absurd (omega arith)
pair_goes u v x (a ∷ b ∷ w) long e is =
    let k = some_of (is_high_surrogate u && is_low_surrogate v) x (surrogate_pair_char u v) is in
    let rest : suc (suc (length w)) - 2 ≡ length w = omega arith in
    rw (rest, take-length w, k.1, ← e) (pair_lossy u v (units w) k.0)

pub lone_goes : (u v : ℕ) (w : List ℕ) → u < 0x1_0000 → 2 ≤ length w → v ≡ slice_index w 0 * 256 + slice_index w 1
    → None ≡ (if is_high_surrogate u && is_low_surrogate v then Some (surrogate_pair_char u v) else None)
    → utf16_lossy_chars (u ∷ units w) ≡ character_of u ∷ utf16_lossy_chars (units w)
lone_goes u v [] small long e is = absurd (omega arith)
lone_goes u v (a ∷ []) small long e is = absurd (omega arith)
lone_goes u v (a ∷ b ∷ w) small long e is = rw (← e) (lone_lossy u v (units w) small (none_of (is_high_surrogate u && is_low_surrogate v) (surrogate_pair_char u v) is))

pub last_goes : (u : ℕ) (w : List ℕ) → u < 0x1_0000 → length w < 2 → utf16_lossy_chars (u ∷ units w) ≡ character_of u ∷ utf16_lossy_chars (units w)
last_goes u [] small short = last_lossy u small ∙ ap (λ us. character_of u ∷ us) (sym none_lossy)
last_goes u (a ∷ []) small short = last_lossy u small ∙ ap (λ us. character_of u ∷ us) (sym none_lossy)
last_goes u (a ∷ b ∷ w) small short = absurd (omega arith)
