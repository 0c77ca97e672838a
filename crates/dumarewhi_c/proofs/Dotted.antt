-- Arcs in decimal digits, and the octets of texts of them.
use Rattle.std.proofs.Common.{◌≡◌, ℕ, ◌+◌, ◌*◌, ◌^◌, ◌<◌, Bool, true, false, List, [], ◌∷◌, ◌++◌, length, map, refl, sym, ap, ◌∙◌, arith, append-nil, append_assoc}
use Rattle.std.specs.Prelude.{◌&&◌, nat_lt, if◌then◌else◌, IsTrue, Option, Some, None, Result, Ok, Err}
use Rattle.std.specs.Char.{is_ascii_digit}
use Rattle.std.specs.List.{flat_map, list_all}
use Rattle.std.specs.Option.{option_and_then, SomeIff}
use Rattle.std.specs.Result.{result_ok}
use Rattle.std.specs.Str.{all_ascii_digits, IsAscii, IsUtf8}
use Rattle.std.specs.Str.Parse.{digits_value, ParsesUnsigned}
use Rattle.std.proofs.lemmas.Bool.Decides.{nat_tests}
use Rattle.std.proofs.lemmas.Str.{IsUtf8-from_ascii}
use Rattle.std.proofs.lemmas.Str.Ascii.{IsAscii-nil, IsAscii-cons}
use Rattle.std.proofs.lemmas.Str.Parse.{IsNumeralModel, numerals_by_value, tells_all_ascii_digits, parse_digits}
use Rattle.der_base.proofs.Oids.Arcs.{and_first, and_second}
use Rattle.der_base.specs.Octets.{groups}
use Rattle.der_base.specs.OidArcs.{components}
use Rattle.dumarewhi_c.specs.DottedTexts.{groups_if_arc, have_subidentifier, is_arc, octets_of_arcs, octets_of_text}

numerals : IsNumeralModel (λ ds. all_ascii_digits ds ≡ true) (digits_value 10)
numerals = numerals_by_value _ tells_all_ascii_digits

-- the three tests of an arc
tests : (ds : List ℕ) → IsTrue (is_arc ds) → (nat_lt 0 (length ds) ≡ true) × (all_ascii_digits ds ≡ true) × (nat_lt (digits_value 10 ds) (2 ^ 128) ≡ true)
tests ds h =
    let small = nat_lt (digits_value 10 ds) (2 ^ 128) in
    let more = and_second (nat_lt 0 (length ds)) (all_ascii_digits ds && small) h in
    (and_first (nat_lt 0 (length ds)) (all_ascii_digits ds && small) h, and_first (all_ascii_digits ds) small more, and_second (all_ascii_digits ds) small more)

number_is : (ds : List ℕ) → all_ascii_digits ds ≡ true → 0 < length ds → digits_value 10 ds < 2 ^ 128 → is_arc ds ≡ true
number_is ds digits some small =
    let t : nat_lt 0 (length ds) ≡ true = grind (arith, nat_tests) in
    let u : nat_lt (digits_value 10 ds) (2 ^ 128) ≡ true = grind (arith, nat_tests) in
    ap (λ x. x && (all_ascii_digits ds && nat_lt (digits_value 10 ds) (2 ^ 128))) t ∙ ap (λ x. x && nat_lt (digits_value 10 ds) (2 ^ 128)) digits ∙ u

same_digits : (ds : List ℕ) → all_ascii_digits ds ≡ list_all is_ascii_digit ds
same_digits [] = refl
same_digits (d ∷ ds) = ap (λ b. is_ascii_digit d && b) (same_digits ds)

pub no_digits : (ds : List ℕ) → list_all is_ascii_digit ds ≡ false → ¬ IsTrue (is_arc ds)
no_digits ds h is =
    let e : all_ascii_digits ds ≡ false = same_digits ds ∙ h in
    let t = (tests ds is).1 in grind (arith, t, e)

pub parsed : {E : Type 0} (ds : List ℕ) (r : Result ℕ E) → ParsesUnsigned 128 10 ds r → list_all is_ascii_digit ds ≡ true
    → SomeIff (result_ok r) (IsTrue (is_arc ds)) (digits_value 10 ds)
parsed {E} ds (Ok n) h all =
    let digits : all_ascii_digits ds ≡ true = same_digits ds ∙ all in
    let q = parse_digits numerals {E = E} 128 ds (Ok n) h digits in
    (number_is ds digits q.0.0 q.0.1, q.1)
parsed {E} ds (Err e) h all =
    let digits : all_ascii_digits ds ≡ true = same_digits ds ∙ all in
    let q = parse_digits numerals {E = E} 128 ds (Err e) h digits in
    λ is. let t = tests ds is in q (grind (arith, nat_tests), grind (arith, nat_tests))

digit_small : (c : ℕ) → is_ascii_digit c ≡ true → c < 128
digit_small c h = grind (arith, nat_tests)

ascii : (w : List ℕ) → list_all is_ascii_digit w ≡ true → IsAscii w
ascii [] h = IsAscii-nil
ascii (c ∷ w) h =
    IsAscii-cons c w (digit_small c (and_first (is_ascii_digit c) (list_all is_ascii_digit w) h)) (ascii w (and_second (is_ascii_digit c) (list_all is_ascii_digit w) h))

pub digits_utf8 : (w : List ℕ) → list_all is_ascii_digit w ≡ true → IsUtf8 w
digits_utf8 w h = IsUtf8-from_ascii w (ascii w h)

-- whether the parts of a text are arcs, and what they make if they are
abbrev made : Bool → Bool → Bool → Bool → Option (List ℕ) → Option (List ℕ)
made p q r h v = if (p && (q && r)) then (if h then v else None) else None

push : (t : Bool) (x : List ℕ) → option_and_then octets_of_arcs (if t then Some x else None) ≡ (if t then octets_of_arcs x else None)
push true x = refl
push false x = refl

by_components : (text : List ℕ) (cs : List (List ℕ)) → components text ≡ cs
    → octets_of_text text ≡ (if list_all is_arc cs then octets_of_arcs (map (digits_value 10) cs) else None)
by_components text cs e =
    ap (λ l. option_and_then octets_of_arcs (if list_all is_arc l then Some (map (digits_value 10) l) else None)) e
    ∙ push (list_all is_arc cs) (map (digits_value 10) cs)

written : (cs : List (List ℕ)) → list_all is_arc cs ≡ true → flat_map groups (map (digits_value 10) cs) ≡ flat_map groups_if_arc cs
written [] h = refl
written (c ∷ cs) h =
    let e = and_first (is_arc c) (list_all is_arc cs) h in
    ap (λ l. groups (digits_value 10 c) ++ l) (written cs (and_second (is_arc c) (list_all is_arc cs) h))
    ∙ ap (λ t. (if t then groups (digits_value 10 c) else []) ++ flat_map groups_if_arc cs) (sym e)

module _ (text a b : List ℕ) (cs : List (List ℕ)) (e : components text ≡ a ∷ b ∷ cs) where
  -- the first subidentifier, and the others
  abbrev first : ℕ
  first = 40 * digits_value 10 a + digits_value 10 b

  abbrev have : Bool
  have = have_subidentifier (digits_value 10 a) (digits_value 10 b)

  abbrev all : Option (List ℕ)
  all = Some (groups first ++ flat_map groups (map (digits_value 10) cs))

  by_parts : octets_of_text text ≡ made (is_arc a) (is_arc b) (list_all is_arc cs) have all
  by_parts = by_components text (a ∷ b ∷ cs) e

  pub are_octets : (x y n : ℕ) → IsTrue (is_arc a) × (x ≡ digits_value 10 a) → IsTrue (is_arc b) × (y ≡ digits_value 10 b)
      → list_all is_arc cs ≡ true → IsTrue (have_subidentifier x y) × (n ≡ 40 * x + y)
      → octets_of_text text ≡ Some (groups n ++ flat_map groups_if_arc cs)
  are_octets x y n p q others number =
      let some = ap (λ v. have_subidentifier v (digits_value 10 b)) (sym p.1) ∙ ap (have_subidentifier x) (sym q.1) ∙ number.0 in
      let same : first ≡ n = ap (λ v. 40 * v + digits_value 10 b) (sym p.1) ∙ ap (λ v. 40 * x + v) (sym q.1) ∙ sym number.1 in
      by_parts
      ∙ ap (λ t. made t (is_arc b) (list_all is_arc cs) have all) p.0
      ∙ ap (λ t. made true t (list_all is_arc cs) have all) q.0
      ∙ ap (λ t. made true true t have all) others
      ∙ ap (λ t. made true true true t all) some
      ∙ ap (λ l. Some (groups first ++ l)) (written cs others)
      ∙ ap (λ v. Some (groups v ++ flat_map groups_if_arc cs)) same

-- one more component
pub one_more : {A : Type 0} (view : A → List ℕ) (xs : List A) (x : A) (n : ℕ) → IsTrue (is_arc (view x)) × (n ≡ digits_value 10 (view x))
    → flat_map groups_if_arc (map view xs) ++ groups n ≡ flat_map groups_if_arc (map view (xs ++ x ∷ []))
one_more view [] x n h =
    let arc = ap groups h.1 ∙ ap (λ t. if t then groups (digits_value 10 (view x)) else []) (sym h.0) in
    arc ∙ sym (append-nil (groups_if_arc (view x)))
one_more view (y ∷ ys) x n h =
    append_assoc (groups_if_arc (view y)) (flat_map groups_if_arc (map view ys)) (groups n)
    ∙ ap (λ l. groups_if_arc (view y) ++ l) (one_more view ys x n h)
