-- Octets of the string types.
use Rattle.std.proofs.Common.{◌≡◌, ◌==◌, ℕ, zero, suc, ◌+◌, ◌*◌, ◌<◌, ◌≤◌, ◌⊎◌, inl, inr, Bool, true, false, not, ◌&&◌, List, [], ◌∷◌, length, drop, All, get_or, arith, refl, sym, ap, ◌∙◌}
use mathlib.Core.Bool.{beq}
use Rattle.std.specs.Bool.{MatchBool, IsTrue}
use Rattle.std.specs.Str.{IsAscii, IsNotAscii}
use Rattle.std.specs.Char.Utf16.{has_unpaired_surrogate}
use Rattle.std.proofs.str.Utf16.{IsPair, utf16_chars_lone, utf16_chars_pair, lone_unit_char_low, lone_unit_char_high, lone_unit_char_surrogate, utf16_chars-nil}
use Rattle.std.proofs.lemmas.List.Elements.{All-head, All-tail, All-from_get_or, All-weaker}
use Rattle.std.proofs.lemmas.Bool.{cases_lt, cases_eq}
use Rattle.std.proofs.lemmas.Bool.Decides.{nat_tests}
use Rattle.der_base.specs.Text.{is_within, is_ia5, is_printable, units, IsUtf16}
use Rattle.der_base.proofs.Leaves.Decided.{never}
use Rattle.der_base.proofs.AllByRecursion.{Each}
use Rattle.der_base.proofs.Octets.Shortest.{IsOctet}

-- octets below 128 are ASCII, and so is what stands past the end
pub ascii_of_all : (w : List ℕ) → All (λ b. b < 128) w → IsAscii w
ascii_of_all [] h i = omega arith
ascii_of_all (b ∷ w) h zero = All-head (λ b. b < 128) b w h
ascii_of_all (b ∷ w) h (suc i) = ascii_of_all w (All-tail (λ b. b < 128) b w h) i

-- each second surrogate stands behind a first one, by the high octets of the pairs; whether one is expected in front
abbrev pub pairs_match : Bool → List ℕ → Bool
pairs_match true (a ∷ b ∷ w) = is_within 0xDC 0xDF a && pairs_match (is_within 0xD8 0xDB a) w
pairs_match false (a ∷ b ∷ w) = not (is_within 0xDC 0xDF a) && pairs_match (is_within 0xD8 0xDB a) w
pairs_match expects _ = not expects

-- a step over one pair; low says whether a second surrogate stands in front
pub pairs_match_step : (expects low : Bool) (w : List ℕ) → 2 ≤ length w → low ≡ is_within 0xDC 0xDF (get_or w 0 0) → not (beq low expects) ≡ false
    → pairs_match expects w ≡ pairs_match (is_within 0xD8 0xDB (get_or w 0 0)) (drop 2 w)
pairs_match_step expects low [] l e n = absurd (omega arith)
pairs_match_step expects low (a ∷ []) l e n = absurd (omega arith)
pairs_match_step true true (a ∷ b ∷ w) l e n = rw (← e) refl
pairs_match_step false false (a ∷ b ∷ w) l e n = rw (← e) refl
pairs_match_step true false (a ∷ b ∷ w) l e n = absurd (never (sym n))
pairs_match_step false true (a ∷ b ∷ w) l e n = absurd (never (sym n))

pub pairs_match_not : (expects low : Bool) (w : List ℕ) → 2 ≤ length w → low ≡ is_within 0xDC 0xDF (get_or w 0 0) → not (beq low expects) ≡ true → pairs_match expects w ≡ false
pairs_match_not expects low [] l e n = absurd (omega arith)
pairs_match_not expects low (a ∷ []) l e n = absurd (omega arith)
pairs_match_not true true (a ∷ b ∷ w) l e n = absurd (never n)
pairs_match_not false false (a ∷ b ∷ w) l e n = absurd (never n)
pairs_match_not true false (a ∷ b ∷ w) l e n = rw (← e) refl
pairs_match_not false true (a ∷ b ∷ w) l e n = rw (← e) refl

pub pairs_match_end : (expects : Bool) (w : List ℕ) → length w < 2 → pairs_match expects w ≡ not expects
pairs_match_end true [] l = refl
pairs_match_end false [] l = refl
pairs_match_end true (a ∷ []) l = refl
pairs_match_end false (a ∷ []) l = refl
pairs_match_end expects (a ∷ b ∷ w) l = absurd (omega arith)

-- a range of octets
in_range : (low high b : ℕ) → low ≤ b → b ≤ high → is_within low high b ≡ true
in_range low high b l h = grind (arith, nat_tests)

out_of_range : (low high b : ℕ) → ((b < low) ⊎ (high < b)) → is_within low high b ≡ false
out_of_range low high b h = grind (arith, nat_tests)

-- some surrogate of the units has no partner
abbrev unpaired : List ℕ → Bool
unpaired us = has_unpaired_surrogate us

lone_unit : (u : ℕ) (us : List ℕ) → ((u < 0xD800) ⊎ (0xE000 ≤ u)) → unpaired (u ∷ us) ≡ unpaired us
lone_unit u us (inl h) = rw (utf16_chars_lone u us (λ p. omega (arith, p.0)), lone_unit_char_low u h) refl
lone_unit u us (inr h) = rw (utf16_chars_lone u us (λ p. omega (arith, p.1)), lone_unit_char_high u h) refl

lone_surrogate : (u : ℕ) (us : List ℕ) → 0xD800 ≤ u → u < 0xE000 → ¬ IsPair u (get_or us 0 0) → unpaired (u ∷ us) ≡ true
lone_surrogate u us l h n = rw (utf16_chars_lone u us n, lone_unit_char_surrogate u l h) refl

paired : (u v : ℕ) (us : List ℕ) → IsPair u v → unpaired (u ∷ v ∷ us) ≡ unpaired us
paired u v us p = rw (utf16_chars_pair u v us p) refl

-- pairs of octets are matched where their units are, in front of which a first surrogate may stand
record AreMatched (w : List ℕ) : Type 0 where
  alone : unpaired (units w) ≡ not (pairs_match false w)
  behind : (u : ℕ) → 0xD800 ≤ u → u < 0xDC00 → unpaired (u ∷ units w) ≡ not (pairs_match true w)

short_matched : (w : List ℕ) → units w ≡ [] → pairs_match false w ≡ true → pairs_match true w ≡ false → AreMatched w
short_matched w e f g = record {
  alone = rw (e, f, utf16_chars-nil) refl;
  behind = λ u l h. rw (e, g) (lone_surrogate u [] l (omega arith) (λ p. omega (arith, p.2)));
}

-- a second surrogate
low_matched : (a b : ℕ) (w : List ℕ) → b < 256 → 0xDC ≤ a → a ≤ 0xDF → AreMatched w → AreMatched (a ∷ b ∷ w)
low_matched a b w o l h m =
    let low = in_range 0xDC 0xDF a l h in
    let no_high = out_of_range 0xD8 0xDB a (inr (omega arith)) in
    record {
      alone = rw low (lone_surrogate (a * 256 + b) (units w) (omega arith) (omega arith) (λ p. omega (arith, p.1)));
      behind = λ u from below. rw (low, no_high) (paired u (a * 256 + b) (units w) (from, below, omega arith, omega arith) ∙ m.alone);
    }

no_pair : (u a b : ℕ) (us : List ℕ) → b < 256 → ((a < 0xDC) ⊎ (0xDF < a)) → ¬ IsPair u (get_or ((a * 256 + b) ∷ us) 0 0)
no_pair u a b us o (inl h) p = omega (arith, p.2)
no_pair u a b us o (inr h) p = omega (arith, p.3)

-- a first surrogate
high_matched : (a b : ℕ) (w : List ℕ) → b < 256 → 0xD8 ≤ a → a ≤ 0xDB → AreMatched w → AreMatched (a ∷ b ∷ w)
high_matched a b w o l h m =
    let no_low = out_of_range 0xDC 0xDF a (inl (omega arith)) in
    let high = in_range 0xD8 0xDB a l h in
    record {
      alone = rw (no_low, high) (m.behind (a * 256 + b) (omega arith) (omega arith));
      behind = λ u from below. rw no_low (lone_surrogate u ((a * 256 + b) ∷ units w) from (omega arith) (no_pair u a b (units w) o (inl (omega arith))));
    }

-- a unit that is no surrogate
plain_matched : (a b : ℕ) (w : List ℕ) → b < 256 → ((a < 0xD8) ⊎ (0xDF < a)) → AreMatched w → AreMatched (a ∷ b ∷ w)
plain_matched a b w o h m =
    let no_low = out_of_range 0xDC 0xDF a (elim h [ inl k ↦ inl (omega arith) | inr k ↦ inr k ]) in
    let no_high = out_of_range 0xD8 0xDB a (elim h [ inl k ↦ inl k | inr k ↦ inr (omega arith) ]) in
    record {
      alone = rw (no_low, no_high) (lone_unit (a * 256 + b) (units w) (elim h [ inl k ↦ inl (omega arith) | inr k ↦ inr (omega arith) ]) ∙ m.alone);
      behind = λ u from below. rw no_low (lone_surrogate u ((a * 256 + b) ∷ units w) from (omega arith) (no_pair u a b (units w) o (elim h [ inl k ↦ inl (omega arith) | inr k ↦ inr k ])));
    }

pair_matched : (a b : ℕ) (w : List ℕ) → b < 256 → AreMatched w → AreMatched (a ∷ b ∷ w)
pair_matched a b w o m = elim (cases_lt a 0xD8) [
  | inl k ↦ plain_matched a b w o (inl k) m
  | inr k ↦ elim (cases_lt 0xDF a) [
    | inl g ↦ plain_matched a b w o (inr g) m
    | inr g ↦ elim (cases_lt a 0xDC) [ inl f ↦ high_matched a b w o k (omega arith) m | inr f ↦ low_matched a b w o f g m ]
  ]
]

octets_from : (w : List ℕ) → ((k : ℕ) → get_or w k 0 < 256) → Each IsOctet w
octets_from [] h = tt
octets_from (b ∷ w) h = (h 0, octets_from w (λ k. h (suc k)))

matched : (w : List ℕ) → Each IsOctet w → AreMatched w
matched [] h = short_matched [] refl refl refl
matched (a ∷ []) h = short_matched (a ∷ []) refl refl refl
matched (a ∷ b ∷ w) h = pair_matched a b w h.1.0 (matched w h.1.1)

-- octets are UTF-16 where their pairs are matched
pub utf16_of_pairs : (w : List ℕ) → ((k : ℕ) → get_or w k 0 < 256) → pairs_match false w ≡ true → IsUtf16 w
utf16_of_pairs w h e = (matched w (octets_from w h)).alone ∙ ap not e

pub pairs_of_utf16 : (w : List ℕ) → ((k : ℕ) → get_or w k 0 < 256) → IsUtf16 w → pairs_match false w ≡ true
pairs_of_utf16 w h e = at (pairs_match false w) refl
  where
    at : (t : Bool) → pairs_match false w ≡ t → t ≡ true
    at true f = refl
    at false f = absurd (never (sym e ∙ (matched w (octets_from w h)).alone ∙ ap not f))

-- two tests agree below n
abbrev pub agree_below : (ℕ → Bool) → (ℕ → Bool) → ℕ → Bool
agree_below f g zero = true
agree_below f g (suc n) = beq (f n) (g n) && agree_below f g n

both_of : (x y rest : Bool) → (beq x y && rest) ≡ true → (x ≡ y) × (rest ≡ true)
both_of true true rest h = (refl, h)
both_of true false rest h = absurd (never h)
both_of false true rest h = absurd (never h)
both_of false false rest h = (refl, h)

agree_at : (f g : ℕ → Bool) (n : ℕ) → agree_below f g n ≡ true → (b : ℕ) → b < n → f b ≡ g b
agree_at f g zero h b l = absurd (omega arith)
agree_at f g (suc n) h b l =
    let both = both_of (f n) (g n) (agree_below f g n) h in
    elim (cases_eq b n) [ inl same ↦ rw same both.0 | inr other ↦ agree_at f g n both.1 b (omega arith) ]

-- a table that agrees with a character set at each octet, with a low line where none of its characters stands
pub by_table : (table : List ℕ) (b : ℕ) → b < 256 → agree_below (λ k. not (get_or table k 0 == 0x5F)) is_printable 256 ≡ true → not (get_or table b 0 == 0x5F) ≡ is_printable b
by_table table b l h = agree_at (λ k. not (get_or table k 0 == 0x5F)) is_printable 256 h b l

-- ASCII is the character set of an IA5String
ia5_of_low : (b : ℕ) → b < 128 → is_ia5 b ≡ true
ia5_of_low b l = grind (arith, nat_tests)

low_of_ia5 : (b : ℕ) → is_ia5 b ≡ true → b < 128
low_of_ia5 b e = grind (arith, nat_tests)

pub ia5_of_ascii : (w : List ℕ) (r : Bool) → MatchBool r (IsAscii w) (IsNotAscii w) → (IsTrue r → All (λ b. IsTrue (is_ia5 b)) w) × (All (λ b. IsTrue (is_ia5 b)) w → IsTrue r)
ia5_of_ascii w true h = ((λ e. All-from_get_or (λ b. IsTrue (is_ia5 b)) w 0 (λ i l. ia5_of_low (get_or w i 0) (h i))), (λ all. refl))
ia5_of_ascii w false h = (
  (λ e. absurd (never e)),
  (λ all. absurd (omega (arith, h.1, ascii_of_all w (All-weaker (λ b. IsTrue (is_ia5 b)) (λ b. b < 128) low_of_ia5 w all) h.0))),
)
