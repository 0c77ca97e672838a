-- Decimal numbers, and texts that are ASCII.
use Rattle.std.proofs.Common.{◌≡◌, ℕ, ◌^◌, ◌<◌, Bool, true, false, List, [], ◌∷◌, length, refl, sym, ap, ◌∙◌, arith}
use Rattle.std.specs.Prelude.{◌++◌, codes, decimal, ◌&&◌, nat_lt, if◌then◌else◌, IsTrue, Some, None, Result, Ok, Err}
use Rattle.std.specs.Char.{is_ascii_digit}
use Rattle.std.specs.List.{list_all}
use Rattle.std.specs.Result.{result_ok}
use Rattle.std.specs.Str.{all_ascii_digits, IsAscii, IsUtf8}
use Rattle.std.specs.Str.Parse.{digits_value, ParsesUnsigned}
use Rattle.std.proofs.lemmas.Bool.Decides.{nat_tests}
use Rattle.std.proofs.lemmas.Fmt.{decimal_is_IsNumeral, digits_decimal, digits_value-decimal}
use Rattle.std.proofs.lemmas.Str.{IsUtf8-from_ascii}
use Rattle.std.proofs.lemmas.Str.Ascii.{IsAscii-nil, IsAscii-cons}
use Rattle.std.proofs.lemmas.Str.Parse.{IsNumeralModel, numerals_by_value, tells_all_ascii_digits, parse_digits}
use Rattle.der_base.specs.OidArcs.{is_arc}
use Rattle.der_base.proofs.Oids.Arcs.{and_first, and_second}
use Rattle.der_text.specs.Lexemes.{is_word}
use Rattle.der_text.specs.Words.{decimal_number, is_dotted}

numerals : IsNumeralModel (λ ds. all_ascii_digits ds ≡ true) (digits_value 10)
numerals = numerals_by_value _ tells_all_ascii_digits

-- the three tests of a number
tests : (ds : List ℕ) → IsTrue (is_arc ds) → (nat_lt 0 (length ds) ≡ true) × (all_ascii_digits ds ≡ true) × (nat_lt (digits_value 10 ds) (2 ^ 64) ≡ true)
tests ds h =
    let small = nat_lt (digits_value 10 ds) (2 ^ 64) in
    let more = and_second (nat_lt 0 (length ds)) (all_ascii_digits ds && small) h in
    (and_first (nat_lt 0 (length ds)) (all_ascii_digits ds && small) h, and_first (all_ascii_digits ds) small more, and_second (all_ascii_digits ds) small more)

number_is : (ds : List ℕ) → all_ascii_digits ds ≡ true → 0 < length ds → digits_value 10 ds < 2 ^ 64 → is_arc ds ≡ true
number_is ds digits some small =
    let t : nat_lt 0 (length ds) ≡ true = grind (arith, nat_tests) in
    let u : nat_lt (digits_value 10 ds) (2 ^ 64) ≡ true = grind (arith, nat_tests) in
    ap (λ x. x && (all_ascii_digits ds && nat_lt (digits_value 10 ds) (2 ^ 64))) t ∙ ap (λ x. x && nat_lt (digits_value 10 ds) (2 ^ 64)) digits ∙ u

not_true : (b : Bool) → ¬ (b ≡ true) → b ≡ false
not_true true h = absurd (h refl)
not_true false h = refl

if_arc : (ds : List ℕ) (b : Bool) → is_arc ds ≡ b → decimal_number ds ≡ (if b then Some (digits_value 10 ds) else None)
if_arc ds b e = ap (λ x. if x then Some (digits_value 10 ds) else None) e

same_digits : (ds : List ℕ) → all_ascii_digits ds ≡ list_all is_ascii_digit ds
same_digits [] = refl
same_digits (d ∷ ds) = ap (λ b. is_ascii_digit d && b) (same_digits ds)

pub no_digits : (ds : List ℕ) → list_all is_ascii_digit ds ≡ false → None ≡ decimal_number ds
no_digits ds h =
    let e : all_ascii_digits ds ≡ false = same_digits ds ∙ h in
    let none : is_arc ds ≡ false = not_true (is_arc ds) (λ is. let t = (tests ds is).1 in grind (arith, t, e)) in
    sym (if_arc ds false none)

pub parsed : {E : Type 0} (ds : List ℕ) (r : Result ℕ E) → ParsesUnsigned 64 10 ds r → list_all is_ascii_digit ds ≡ true
    → result_ok r ≡ decimal_number ds
parsed {E} ds (Ok n) h all =
    let digits : all_ascii_digits ds ≡ true = same_digits ds ∙ all in
    let q = parse_digits numerals {E = E} 64 ds (Ok n) h digits in
    ap Some q.1 ∙ sym (if_arc ds true (number_is ds digits q.0.0 q.0.1))
parsed {E} ds (Err e) h all =
    let digits : all_ascii_digits ds ≡ true = same_digits ds ∙ all in
    let q = parse_digits numerals {E = E} 64 ds (Err e) h digits in
    let none : is_arc ds ≡ false = not_true (is_arc ds) (λ is. let t = tests ds is in q (grind (arith, nat_tests), grind (arith, nat_tests))) in
    sym (if_arc ds false none)

-- what passes a test that only ASCII passes is UTF-8
pub ascii : (p : ℕ → Bool) → ((c : ℕ) → p c ≡ true → c < 128) → (w : List ℕ) → list_all p w ≡ true → IsAscii w
ascii p small [] h = IsAscii-nil
ascii p small (c ∷ w) h =
    IsAscii-cons c w (small c (and_first (p c) (list_all p w) h)) (ascii p small w (and_second (p c) (list_all p w) h))

digit_small : (c : ℕ) → is_ascii_digit c ≡ true → c < 128
digit_small c h = grind (arith, nat_tests)

dotted_small : (c : ℕ) → is_dotted c ≡ true → c < 128
dotted_small c h = grind (arith, nat_tests)

pub digits_utf8 : (w : List ℕ) → list_all is_ascii_digit w ≡ true → IsUtf8 w
digits_utf8 w h = IsUtf8-from_ascii w (ascii is_ascii_digit digit_small w h)

pub dotted_utf8 : (w : List ℕ) → list_all is_dotted w ≡ true → IsUtf8 w
dotted_utf8 w h = IsUtf8-from_ascii w (ascii is_dotted dotted_small w h)

-- a number that is written in decimal
pub decimal_reads_back : (n : ℕ) → n < 2 ^ 64 → decimal_number (decimal n) ≡ Some n
decimal_reads_back n h =
    let value = digits_value-decimal numerals n h in
    let small : digits_value 10 (decimal n) < 2 ^ 64 = omega (arith, value, h) in
    if_arc (decimal n) true (number_is (decimal n) (digits_decimal numerals n h) (decimal_is_IsNumeral n h).0.0 small) ∙ ap Some value

digit_in_word : (c : ℕ) → is_ascii_digit c ≡ true → is_word c ≡ true
digit_in_word c h = grind (arith, nat_tests, h)

digits_in_word : (w : List ℕ) → all_ascii_digits w ≡ true → list_all is_word w ≡ true
digits_in_word [] h = refl
digits_in_word (c ∷ w) h =
    ap (λ b. b && list_all is_word w) (digit_in_word c (and_first (is_ascii_digit c) (all_ascii_digits w) h))
    ∙ digits_in_word w (and_second (is_ascii_digit c) (all_ascii_digits w) h)

pub decimal_in_word : (n : ℕ) → n < 2 ^ 64 → list_all is_word (codes "long-form:" ++ decimal n) ≡ true
decimal_in_word n h = digits_in_word (decimal n) (digits_decimal numerals n h)
