-- How many digits and how many characters of base64 a text has at most.
use Rattle.std.proofs.Common.{◌≡◌, ◌≢◌, ℕ, zero, suc, ◌+◌, ◌-◌, ◌*◌, ◌≤◌, ◌==◌, ◌||◌, not, Bool, true, false, if◌then◌else◌, List, [], ◌∷◌, length, take, drop, codes, filter, Option, Some, None, unwrap_or, Result, Err, inl, inr, refl, ap, subst, arith, lit≤}
use Rattle.std.proofs.lemmas.Bool.{cases_Bool}
use Rattle.std.proofs.lemmas.Bool.Decides.{eqb_tells}
use Rattle.std.proofs.lemmas.List.{length-append, length-drop, length-take}
use Rattle.std.proofs.lemmas.List.Splits.{slice_split-cons_no, slice_split-cons_yes}
use Rattle.std.specs.Char.{is_ascii_hexdigit, is_ascii_whitespace}
use Rattle.std.specs.List.{after_first, before_first, flat_map, list_all, onto_first, position_or_len, range_with_len, slice_split}
use Rattle.std.specs.Option.{option_and_then, option_or}
use Rattle.std.specs.Prelude.{IfSome, find, slice_index}
use Rattle.der_input.specs.declared.error.FormError.{FormError}
use Rattle.der_input.specs.declared.error.FormError.TheVariants.{OutOfMemory}
use Rattle.der_input.specs.declared.notation.Notation.{Notation}
use Rattle.der_input.specs.declared.notation.Notation.TheVariants.{Base64, Decimal, Digits, Dump, Escapes, Prefixed}
use Rattle.der_input.specs.Escapes.{begins_hex, begins_octal, begins_quote, digits_from}
use Rattle.der_input.specs.Escapes.{part_digits, part_size, quote_of, simple_digits, string_digits}
use Rattle.der_input.specs.Marks.{begins_with, first_place, has_needle, has_octet, is_separator}
use Rattle.der_input.specs.Numbers.{digits_of_number, digits_or, ends_word, has_prefix, is_between, is_prefixed, octet_of, prefixed_digits}
use Rattle.der_input.specs.Plain.{before_characters, begins_break, begins_characters, behind_headers, behind_line, behind_offset, character_of, characters_from}
use Rattle.der_input.specs.Plain.{characters_of, digits_in, digits_of, digits_of_line, digits_of_source, digits_of_word, ends_offset, in_braces, is_character}
use Rattle.der_input.specs.Plain.{notation_of, padded, standard_character, without_address, without_headers, without_margin, without_prefix}
use Rattle.der_input.specs.Slices.{DecodesBase64, DecodesDigits}

taken : (n : ℕ) (v w : List ℕ) → length v ≤ length w → length (take n v) ≤ length w
taken n v w h = omega (arith, length-take n v, h)

dropped : (n : ℕ) (w : List ℕ) → length (drop n w) ≤ length w
dropped n w = omega (arith, length-drop n w)

either : (b : Bool) (v w : List ℕ) (n : ℕ) → length v ≤ n → length w ≤ n → length (if b then v else w) ≤ n
either true v w n h k = h
either false v w n h k = k

-- ---- a text in parts
onto : (c : ℕ) (ps : List (List ℕ)) (i : List ℕ) → length (flat_map (λ w. w) ps) ≤ length i → length (flat_map (λ w. w) (onto_first c ps)) ≤ length (c ∷ i)
onto c [] i h = omega arith
onto c (part ∷ ps) i h = omega (arith, h)

parts_length : (p : ℕ → Bool) (i : List ℕ) → length (flat_map (λ w. w) (slice_split p i)) ≤ length i
parts_length p [] = omega arith
parts_length p (c ∷ i) = elim (cases_Bool (p c)) [
  | inl t ↦ rw (slice_split-cons_yes p c i t) (omega (arith, parts_length p i))
  | inr t ↦ rw (slice_split-cons_no p c i t) (onto c (slice_split p i) i (parts_length p i))
]

twice : (f : List ℕ → List ℕ) → ((w : List ℕ) → length (f w) ≤ 2 * length w) → (ps : List (List ℕ)) → length (flat_map f ps) ≤ 2 * length (flat_map (λ w. w) ps)
twice f h [] = omega arith
twice f h (w ∷ ps) = omega (arith, h w, twice f h ps, length-append (f w) (flat_map f ps), length-append w (flat_map (λ w. w) ps))

of_parts : (f : List ℕ → List ℕ) → ((w : List ℕ) → length (f w) ≤ 2 * length w) → (p : ℕ → Bool) (i : List ℕ) → length (flat_map f (slice_split p i)) ≤ 2 * length i
of_parts f h p i = omega (arith, twice f h (slice_split p i), parts_length p i)

-- ---- one part
padded_twice : (w : List ℕ) → length (padded w) ≤ 2 * length w
padded_twice w = elim (eqb_tells (length w) 1) [
  | inl (t, one) ↦ omega (arith, ap (λ b. length (if b then 0x30 ∷ w else w)) t, one)
  | inr (t, other) ↦ omega (arith, ap (λ b. length (if b then 0x30 ∷ w else w)) t)
]

word_twice : (w : List ℕ) → length (digits_of_word w) ≤ 2 * length w
word_twice w =
    let shorter = either (has_prefix w) (drop 2 w) w (length w) (omega (arith, length-drop 2 w)) (omega arith) in
    omega (arith, padded_twice (without_prefix w), shorter)

source_twice : (w : List ℕ) → length (digits_of_source w) ≤ 2 * length w
source_twice w =
    let shorter : length (prefixed_digits w) ≤ length w = taken (position_or_len (λ c. not (is_ascii_hexdigit c)) (drop 2 w)) (drop 2 w) w (omega (arith, length-drop 2 w)) in
    either (is_prefixed w) (padded (prefixed_digits w)) [] (2 * length w) (omega (arith, padded_twice (prefixed_digits w), shorter)) (omega arith)

filter_within : (p : ℕ → Bool) (w : List ℕ) → length (filter p w) ≤ length w
filter_within p [] = omega arith
filter_within p (c ∷ w) = either (p c) (c ∷ filter p w) (filter p w) (suc (length w)) (omega (arith, filter_within p w)) (omega (arith, filter_within p w))

line_twice : (w : List ℕ) → length (digits_of_line w) ≤ 2 * length w
line_twice w =
    let u = without_margin w in
    let v = behind_offset u in
    let margin : length u ≤ length w = dropped (position_or_len (λ c. not (is_ascii_whitespace c)) w) w in
    let offset : length v ≤ length u =
    either (list_all is_ascii_hexdigit (before_first ends_offset u)) (after_first ends_offset u) u (length u) (dropped (position_or_len ends_offset u + 1) u) (omega arith) in
    let end = unwrap_or (find (begins_characters v) (range_with_len 0 (length v))) (length v) in
    let before : length (before_characters v) ≤ length v = taken end v v (omega arith) in
    omega (arith, filter_within (λ c. not (is_separator c)) (before_characters v), before, offset, margin)

or_twice : (w : List ℕ) (octet : Option ℕ) → 1 ≤ length w → length (digits_or w octet) ≤ 2 * length w
or_twice w (Some n) some = omega (arith, some)
or_twice w None some = omega arith

number_twice : (w : List ℕ) → length (digits_of_number w) ≤ 2 * length w
number_twice [] = lit≤ tt
number_twice (c ∷ w) = or_twice (c ∷ w) (octet_of (c ∷ w)) (omega arith)

-- ---- strings with escapes
simple_short : (c : ℕ) → length (simple_digits c) ≤ 2
simple_short c =
    either (c == 0x6e) _ _ 2 (lit≤ tt) (either (c == 0x72) _ _ 2 (lit≤ tt) (either (c == 0x74) _ _ 2 (lit≤ tt)
    (either (c == 0x30) _ _ 2 (lit≤ tt) (either (c == 0x61) _ _ 2 (lit≤ tt) (either (c == 0x62) _ _ 2 (lit≤ tt)
    (either (c == 0x66) _ _ 2 (lit≤ tt) (either (c == 0x76) _ _ 2 (lit≤ tt) (either (c == 0x5c) _ _ 2 (lit≤ tt)
    (either (c == 0x22) _ _ 2 (lit≤ tt) (either (c == 0x27) _ _ 2 (lit≤ tt) (either (c == 0x3f) _ _ 2 (lit≤ tt)
    (either (c == 0x0a || c == 0x0d) _ _ 2 (lit≤ tt) (lit≤ tt)))))))))))))

part_short : (quote : Option ℕ) (w : List ℕ) → length (part_digits quote w) ≤ 2
part_short quote w =
    let first = slice_index w 0 in
    either (begins_hex w) _ _ 2 (lit≤ tt) (either (begins_octal w) _ _ 2 (lit≤ tt)
    (either (begins_with w (codes "\\")) _ _ 2 (simple_short (slice_index w 1))
    (either (begins_quote quote w || first == 0x0a || first == 0x0d) _ _ 2 (lit≤ tt) (lit≤ tt))))

-- an open quote has a digit more
from_twice : (quote : Option ℕ) (k : ℕ) (w : List ℕ) → length (digits_from quote k w) ≤ 2 * length w + length (digits_from quote 0 [])
from_twice quote (suc k) [] = omega arith
from_twice quote zero [] = omega arith
from_twice quote (suc k) (c ∷ w) = omega (arith, from_twice quote k w)
from_twice quote zero (c ∷ w) =
    let others = part_size quote (c ∷ w) - 1 in
    omega (arith, part_short quote (c ∷ w), from_twice quote others w, length-append (part_digits quote (c ∷ w)) (digits_from quote others w))

string_twice : (quote : Option ℕ) (i : List ℕ) → quote ≡ quote_of i → length (string_digits quote i) ≤ 2 * length i
string_twice None i e = omega (arith, from_twice None 0 i)
string_twice (Some quote) [] e = absurd (no_quote e)
  where
    no_quote : Some quote ≡ None → ⊥
    no_quote e = cc
string_twice (Some quote) (c ∷ i) e =
    let behind = position_or_len (λ c. c == quote) (c ∷ i) + 1 in
    let one : length (digits_from (Some quote) 0 []) ≡ 1 = refl in
    omega (arith, from_twice (Some quote) 0 (drop behind (c ∷ i)), one, length-drop behind (c ∷ i))

-- ---- a text
braces_within : (i : List ℕ) → length (in_braces i) ≤ length i
braces_within i =
    let rest = after_first (λ c. c == 0x7b) i in
    let shorter = dropped (position_or_len (λ c. c == 0x7b) i + 1) i in
    either (has_octet 0x7b i) (before_first (λ c. c == 0x7d) rest) i (length i) (taken (position_or_len (λ c. c == 0x7d) rest) rest i shorter) (omega arith)

in_twice : (n : Option Notation) (i : List ℕ) → n ≡ notation_of i → length (digits_in n i) ≤ 2 * length i
in_twice (Some Dump) i e = of_parts digits_of_line line_twice (λ c. c == 0x0a) i
in_twice (Some Escapes) i e = string_twice (quote_of i) i refl
in_twice (Some Decimal) i e = omega (arith, of_parts digits_of_number number_twice is_between (in_braces i), braces_within i)
in_twice (Some Prefixed) i e = of_parts digits_of_source source_twice ends_word i
in_twice (Some Digits) i e = omega (arith, of_parts digits_of_word word_twice is_separator (in_braces i), braces_within i)
in_twice (Some Base64) i e = omega (arith, of_parts digits_of_word word_twice is_separator (in_braces i), braces_within i)
in_twice None i e = omega (arith, of_parts digits_of_word word_twice is_separator (in_braces i), braces_within i)

pub digits_twice : (i : List ℕ) → length (digits_of i) ≤ 2 * length i
digits_twice i = in_twice (notation_of i) i refl

-- ---- base64
from_within : (k : ℕ) (w : List ℕ) → length (characters_from k w) ≤ length w
from_within zero [] = omega arith
from_within (suc k) [] = omega arith
from_within (suc k) (c ∷ w) = omega (arith, from_within k w)
from_within zero (c ∷ w) =
    let one : length (character_of c) ≤ 1 = either (is_character c) (standard_character c ∷ []) [] 1 (lit≤ tt) (lit≤ tt) in
    either (begins_break (c ∷ w)) _ _ (suc (length w)) (omega (arith, from_within 1 w)) (omega (arith, from_within 0 w, one, length-append (character_of c) (characters_from 0 w)))

-- what is left of a text, if anything is
abbrev IsWithin : List ℕ → Option (List ℕ) → Type 0
IsWithin i rest = IfSome rest (λ w. length w ≤ length i)

line_within : (i line : List ℕ) → IsWithin i (behind_line i line)
line_within i line = at (first_place i line)
  where
    header : (b : Bool) (end : ℕ) → IsWithin i (if b then Some (drop end i) else None)
    header true end = dropped end i
    header false end = tt

    at : (place : Option ℕ) → IsWithin i (option_and_then (λ k. behind_headers i k (k + length line)) place)
    at None = tt
    at (Some k) = header (has_needle (take k i) (codes ": ")) (k + length line)

or_within : (i : List ℕ) (o p : Option (List ℕ)) → IsWithin i o → IsWithin i p → IsWithin i (option_or o p)
or_within i None p h k = k
or_within i (Some w) p h k = h

or_all : (i : List ℕ) (o : Option (List ℕ)) → IsWithin i o → length (unwrap_or o i) ≤ length i
or_all i None h = omega arith
or_all i (Some w) h = h

pub characters_within : (i : List ℕ) → length (characters_of i) ≤ length i
characters_within i =
    let u = without_address i in
    let address : length u ≤ length i = either (begins_with i (codes "data:")) (after_first (λ c. c == 0x2c) i) i (length i) (dropped (position_or_len (λ c. c == 0x2c) i + 1) i) (omega arith) in
    let headers : length (without_headers u) ≤ length u = or_all u _ (or_within u _ _ (line_within u (codes "\n\n")) (or_within u _ _ (line_within u (codes "\n\r\n")) (line_within u (codes "\\n\\n")))) in
    omega (arith, from_within 0 (without_headers u), headers, address)

-- ---- slices of that size are long enough
pub enough_for_digits : (i octets : List ℕ) (n : ℕ) (r : Result ℕ FormError) → DecodesDigits i n octets r → 2 * length i ≤ n → length i ≤ length octets → r ≢ Err OutOfMemory
enough_for_digits i octets n r h room fits e =
    let most = digits_twice i in
    subst (DecodesDigits i n octets) e h (omega (arith, most, room), omega (arith, most, fits))

pub enough_for_base64 : (i octets : List ℕ) (n : ℕ) (r : Result ℕ FormError) → DecodesBase64 i n octets r → length i ≤ n → length i + 2 ≤ length octets → r ≢ Err OutOfMemory
enough_for_base64 i octets n r h room fits e =
    let most = characters_within i in
    subst (DecodesBase64 i n octets) e h (omega (arith, most, room), omega (arith, most, fits))
