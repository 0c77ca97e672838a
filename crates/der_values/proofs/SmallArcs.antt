-- Subidentifiers below 2^128.
use Rattle.std.proofs.Common.{◌≡◌, ℕ, suc, ◌+◌, ◌*◌, ◌%◌, ◌^◌, ◌<◌, ◌≤◌, Bool, true, false, if◌then◌else◌, List, [], ◌∷◌, length, map, Some, None, refl, sym, ap, ◌∙◌, ⊎_elim, arith}
use Rattle.std.specs.Prelude.{◌&&◌, nat_lt, nat_le, is_some, Option, SomeIff}
use Rattle.std.specs.List.{list_all}
use Rattle.std.proofs.Math.Nat.{pow-suc, pow-le-pow_right, mul-le-mul_right, mul_assoc, mul_comm}
use Rattle.std.proofs.lemmas.Bool.{cases_lt, false≢true}
use Rattle.std.proofs.lemmas.Bool.Decides.{nat_tests}
use Rattle.der_base.specs.Arcs.{arcs, arcs_of_values, ends_below_128, is_whole, subidentifiers}
use Rattle.der_base.specs.Octets.{groups_value}
use Rattle.der_base.specs.OidArcs.{subidentifier_values}
use Rattle.der_base.proofs.Oids.Arcs.{and_first, and_second}
use Rattle.der_values.specs.ArcNumbers.{AreEnded, FitU128, fits_u128, u128_arcs}

lower : (n m : ℕ) → n < m → nat_lt n m ≡ true
lower n m h = grind (arith, nat_tests)

higher : (n m : ℕ) → m ≤ n → nat_lt n m ≡ false
higher n m h = grind (arith, nat_tests)

is_lower : (n m : ℕ) → nat_lt n m ≡ true → n < m
is_lower n m e = grind (arith, nat_tests)

both : (x y : Bool) → x ≡ true → y ≡ true → (x && y) ≡ true
both true y e f = f
both false y e f = absurd (false≢true e)

second_false : (x y : Bool) → y ≡ false → (x && y) ≡ false
second_false true y e = e
second_false false y e = refl

not_true : (x : Bool) → (x ≡ true → ⊥) → x ≡ false
not_true true n = absurd (n refl)
not_true false n = refl

-- what `number_of` says of a subidentifier

pub some_below : (o : Option ℕ) (n m : ℕ) → SomeIff o (n < m) n → is_some o ≡ true → n < m
some_below None n m h e = absurd (false≢true e)
some_below (Some x) n m h e = h.0

pub none_above : (o : Option ℕ) (n m : ℕ) → SomeIff o (n < m) n → is_some o ≡ false → n < m → ⊥
none_above None n m h e = h
none_above (Some x) n m h e = absurd (false≢true (sym e))

-- what is below 2^128 has an end

pub all_ended : (ss : List (List ℕ)) → list_all fits_u128 ss ≡ true → list_all ends_below_128 ss ≡ true
all_ended [] e = refl
all_ended (s ∷ ss) e =
    let fits : fits_u128 s ≡ true = and_first (fits_u128 s) (list_all fits_u128 ss) e in
    both (ends_below_128 s) (list_all ends_below_128 ss) (and_first (ends_below_128 s) (nat_lt (groups_value 0 s) (2 ^ 128)) fits)
    (all_ended ss (and_second (fits_u128 s) (list_all fits_u128 ss) e))

pub some_open : (ss : List (List ℕ)) → list_all ends_below_128 ss ≡ false → list_all fits_u128 ss ≡ false
some_open ss e = not_true (list_all fits_u128 ss) (λ t. false≢true (sym e ∙ all_ended ss t))

-- the first subidentifier, and those after it
module _ (w s v : List ℕ) (e : subidentifiers w ≡ s ∷ subidentifiers v) where
  pub one_fits : AreEnded w → groups_value 0 s < 2 ^ 128 → list_all fits_u128 (subidentifiers v) ≡ list_all fits_u128 (subidentifiers w)
  one_fits h small =
      let ends : ends_below_128 s ≡ true = and_first (ends_below_128 s) (list_all ends_below_128 (subidentifiers v)) (sym (ap (list_all ends_below_128) e) ∙ h) in
      let fits : fits_u128 s ≡ true = both (ends_below_128 s) (nat_lt (groups_value 0 s) (2 ^ 128)) ends (lower (groups_value 0 s) (2 ^ 128) small) in
      sym (ap (list_all fits_u128) e ∙ ap (λ x. x && list_all fits_u128 (subidentifiers v)) fits)

  pub one_is_greater : (groups_value 0 s < 2 ^ 128 → ⊥) → list_all fits_u128 (subidentifiers w) ≡ false
  one_is_greater big = ⊎_elim
      (λ l. absurd (big l))
      (λ g. ap (list_all fits_u128) e ∙ ap (λ x. x && list_all fits_u128 (subidentifiers v)) (second_false (ends_below_128 s) (nat_lt (groups_value 0 s) (2 ^ 128)) (higher (groups_value 0 s) (2 ^ 128) g)))
      (cases_lt (groups_value 0 s) (2 ^ 128))

  pub first_below : FitU128 w → groups_value 0 s < 2 ^ 128
  first_below h =
      let fits : fits_u128 s ≡ true = and_first (fits_u128 s) (list_all fits_u128 (subidentifiers v)) (sym (ap (list_all fits_u128) e) ∙ h) in
      is_lower (groups_value 0 s) (2 ^ 128) (and_second (ends_below_128 s) (nat_lt (groups_value 0 s) (2 ^ 128)) fits)

  pub rest_below : FitU128 w → FitU128 v
  rest_below h = and_second (fits_u128 s) (list_all fits_u128 (subidentifiers v)) (sym (ap (list_all fits_u128) e) ∙ h)

  pub number_in_front : (n : ℕ) → n ≡ groups_value 0 s → subidentifier_values w ≡ n ∷ subidentifier_values v
  number_in_front n f = ap (map (groups_value 0)) e ∙ ap (λ m. m ∷ subidentifier_values v) (sym f)

-- arcs of 64 bits are below 2^128

small_groups : (m : ℕ) (s : List ℕ) → groups_value m s < suc m * 128 ^ length s
small_groups m [] = omega arith
small_groups m (b ∷ s) =
    let i : groups_value (m * 128 + b % 128) s < suc (m * 128 + b % 128) * 128 ^ length s = small_groups (m * 128 + b % 128) s in
    rw (pow-suc 128 (length s)) (scaled m (b % 128) (128 ^ length s) (groups_value (m * 128 + b % 128) s) (omega arith) i)
  where
    scaled : (m b p x : ℕ) → b < 128 → x < suc (m * 128 + b) * p → x < suc m * (p * 128)
    scaled m b p x h k =
        let f : suc (m * 128 + b) * p ≤ suc m * 128 * p = mul-le-mul_right p (omega arith) in let e : suc m * 128 * p ≡ suc m * (p * 128) = rw (mul_assoc (suc m) 128 p, mul_comm 128 p) refl in
        omega arith

nine_groups : (s : List ℕ) → length s ≤ 9 → groups_value 0 s < 2 ^ 128
nine_groups s h = omega (arith, small_groups 0 s, pow-le-pow_right {n = 128} (omega arith) {i = length s} {j = 9} h)

whole_fits : (s : List ℕ) → is_whole s ≡ true → fits_u128 s ≡ true
whole_fits s e =
    let few : nat_le (length s) 9 ≡ true = and_second (ends_below_128 s) (nat_le (length s) 9) e in
    let h : length s ≤ 9 = grind (arith, nat_tests) in
    both (ends_below_128 s) (nat_lt (groups_value 0 s) (2 ^ 128)) (and_first (ends_below_128 s) (nat_le (length s) 9) e)
    (lower (groups_value 0 s) (2 ^ 128) (nine_groups s h))

whole_fit : (ss : List (List ℕ)) → list_all is_whole ss ≡ true → list_all fits_u128 ss ≡ true
whole_fit [] e = refl
whole_fit (s ∷ ss) e =
    both (fits_u128 s) (list_all fits_u128 ss) (whole_fits s (and_first (is_whole s) (list_all is_whole ss) e))
    (whole_fit ss (and_second (is_whole s) (list_all is_whole ss) e))

-- so what has none below 2^128 has none
pub no_arcs_below : (relative : Bool) (w : List ℕ) → u128_arcs relative w ≡ None → arcs relative w ≡ None
no_arcs_below relative w = by_tests (list_all is_whole (subidentifiers w)) (list_all fits_u128 (subidentifiers w)) (whole_fit (subidentifiers w))
  where
    by_tests : (x y : Bool) → (x ≡ true → y ≡ true) → (if y then Some (arcs_of_values relative (subidentifier_values w)) else None) ≡ None
        → (if x then Some (arcs_of_values relative (subidentifier_values w)) else None) ≡ None
    by_tests false y h e = refl
    by_tests true true h e = e
    by_tests true false h e = absurd (false≢true (h refl))
