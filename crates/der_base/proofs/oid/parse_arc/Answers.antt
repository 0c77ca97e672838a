use Rattle.std.proofs.Common.{◌≡◌, ◌≢◌, ℕ, ◌^◌, ◌<◌, ◌==◌, true, List, [], ◌∷◌, length, get_or, sym, ap, subst, ◌∙◌, rules, arith}
use Rattle.std.specs.Prelude.{◌&&◌, nat_lt, IsTrue, Result, Ok, Err}
use Rattle.std.specs.Option.{SomeIff}
use Rattle.std.specs.Result.{result_ok}
use Rattle.std.specs.Char.{is_ascii_digit}
use Rattle.std.specs.Str.{all_ascii_digits}
use Rattle.std.specs.Str.Parse.{digits_value, ParsesUnsigned}
use Rattle.std.proofs.lemmas.Bool.Decides.{nat_tests}
use Rattle.std.proofs.lemmas.Str.Parse.{IsNumeralModel, numerals_by_value, tells_all_ascii_digits, parse_plain}
use Rattle.der_base.specs.OidArcs.{is_arc}
use Rattle.der_base.proofs.Oids.Arcs.{and_first, and_second}
use Rattle.der_base.proofs.oid.parse_arc.Goals as goal

numerals : IsNumeralModel (λ ds. all_ascii_digits ds ≡ true) (digits_value 10)
numerals = numerals_by_value _ tells_all_ascii_digits

-- the three tests of an arc
tests : (ds : List ℕ) → IsTrue (is_arc ds) → (nat_lt 0 (length ds) ≡ true) × (all_ascii_digits ds ≡ true) × (nat_lt (digits_value 10 ds) (2 ^ 64) ≡ true)
tests ds h =
    let small = nat_lt (digits_value 10 ds) (2 ^ 64) in
    let more = and_second (nat_lt 0 (length ds)) (all_ascii_digits ds && small) h in
    (and_first (nat_lt 0 (length ds)) (all_ascii_digits ds && small) h, and_first (all_ascii_digits ds) small more, and_second (all_ascii_digits ds) small more)

no_sign : (ds : List ℕ) → get_or ds 0 0 ≡ 43 → ¬ (IsTrue (is_arc ds))
no_sign [] e h = absurd (omega (arith, e))
no_sign (c ∷ cs) e h = let digits = (tests (c ∷ cs) h).1 in let first = and_first (is_ascii_digit c) (all_ascii_digits cs) digits in absurd (grind (arith, nat_tests))

is_number : (ds : List ℕ) → IsTrue (is_arc ds) → (all_ascii_digits ds ≡ true) × (0 < length ds) × (digits_value 10 ds < 2 ^ 64)
is_number ds h = let t = tests ds h in (t.1, grind (arith, nat_tests), grind (arith, nat_tests))

number_is : (ds : List ℕ) → all_ascii_digits ds ≡ true → 0 < length ds → digits_value 10 ds < 2 ^ 64 → IsTrue (is_arc ds)
number_is ds digits some small =
    let t : nat_lt 0 (length ds) ≡ true = grind (arith, nat_tests) in
    let u : nat_lt (digits_value 10 ds) (2 ^ 64) ≡ true = grind (arith, nat_tests) in
    ap (λ x. x && (all_ascii_digits ds && nat_lt (digits_value 10 ds) (2 ^ 64))) t ∙ ap (λ x. x && nat_lt (digits_value 10 ds) (2 ^ 64)) digits ∙ u

if_parsed : {E : Type 0} → (ds : List ℕ) (r : Result ℕ E) → ParsesUnsigned 64 10 ds r → get_or ds 0 0 ≢ 43
    → SomeIff (result_ok r) (IsTrue (is_arc ds)) (digits_value 10 ds)
if_parsed {E} ds (Ok n) h plain = let q = parse_plain numerals {E = E} 64 ds (Ok n) h plain in (number_is ds q.0.0 q.0.1 q.0.2, q.1)
if_parsed ds (Err e) h plain = λ is. parse_plain numerals 64 ds (Err e) h plain (is_number ds is)

pub returns-then-starts_with : goal.returns-then-starts_with
returns-then-starts_with c =
    let e : c.starts_with.result ≡ (get_or c.args.digits.now 0 0 == 43) = search rules in
    no_sign c.args.digits.now (grind (arith, nat_tests))

pub returns : goal.returns
returns c =
    let e : c.starts_with.result ≡ (get_or c.args.digits.now 0 0 == 43) = search rules in
    let plain : get_or c.args.digits.now 0 0 ≢ 43 = grind (arith, nat_tests) in
    subst (λ o. SomeIff o (IsTrue (is_arc c.args.digits.now)) (digits_value 10 c.args.digits.now)) (sym c.ok.ensures.value)
    (if_parsed c.args.digits.now c.parse.result c.parse.ensures.value.0 plain)
