-- The subidentifiers in octets, one octet after another (X.690 8.19.2).
use Rattle.std.proofs.Common.{◌≡◌, ℕ, suc, ◌+◌, ◌*◌, ◌%◌, ◌^◌, ◌<◌, ◌≤◌, Bool, true, false, List, [], ◌∷◌, length, map, drop, get_or, refl, sym, ap, ◌∙◌, ⊎_elim, arith, add-one}
use Rattle.std.specs.Prelude.{◌==◌, ◌&&◌, nat_lt, nat_le}
use Rattle.std.specs.List.{list_all}
use Rattle.std.proofs.Math.Nat.{pow-suc, pow-le-pow_right}
use Rattle.std.proofs.Math.Seq.{drop-cons}
use Rattle.std.proofs.lemmas.Bool.{cases_lt}
use Rattle.std.proofs.lemmas.Bool.Decides.{nat_tests}
use Rattle.der_base.specs.Arcs.{in_front, subidentifiers, ends_below_128, is_whole}
use Rattle.der_base.specs.Octets.{groups_value}
use Rattle.der_base.specs.OidArcs.{AreWhole, subidentifier_values}

-- whether subidentifiers are whole, the first one behind n more octets with the high bit
abbrev pub whole_after : ℕ → List (List ℕ) → Bool
whole_after n [] = n == 0
whole_after n (s ∷ ss) = (ends_below_128 s && nat_le (n + length s) 9) && list_all is_whole ss

-- what they spell, the first one behind the number n
abbrev pub values_after : ℕ → List (List ℕ) → List ℕ
values_after n [] = []
values_after n (s ∷ ss) = groups_value n s ∷ map (groups_value 0) ss

pub whole_start : (w : List ℕ) → whole_after 0 (subidentifiers w) ≡ list_all is_whole (subidentifiers w)
whole_start w = start (subidentifiers w)
  where
    start : (ss : List (List ℕ)) → whole_after 0 ss ≡ list_all is_whole ss
    start [] = refl
    start (s ∷ ss) = let e : 0 + length s ≡ length s = omega arith in ap (λ k. (ends_below_128 s && nat_le k 9) && list_all is_whole ss) e

values_start : (w : List ℕ) → values_after 0 (subidentifiers w) ≡ subidentifier_values w
values_start w = start (subidentifiers w)
  where
    start : (ss : List (List ℕ)) → values_after 0 ss ≡ map (groups_value 0) ss
    start [] = refl
    start (s ∷ ss) = refl

pub last_octet : (b : ℕ) (w : List ℕ) → b < 128 → subidentifiers (b ∷ w) ≡ (b ∷ []) ∷ subidentifiers w
last_octet b w h = grind (arith, nat_tests)

pub more_octet : (b : ℕ) (w : List ℕ) → 128 ≤ b → subidentifiers (b ∷ w) ≡ in_front b (subidentifiers w)
more_octet b w h = grind (arith, nat_tests)

not_low : (b : ℕ) → 128 ≤ b → nat_lt b 128 ≡ false
not_low b h = grind (arith, nat_tests)

is_low : (b : ℕ) → b < 128 → nat_lt b 128 ≡ true
is_low b h = grind (arith, nat_tests)

-- the last octet of the first one
pub whole_last : (n b : ℕ) (w : List ℕ) → b < 128 → whole_after n (subidentifiers (b ∷ w)) ≡ (nat_le (n + 1) 9 && list_all is_whole (subidentifiers w))
whole_last n b w h = ap (whole_after n) (last_octet b w h) ∙ ap (λ x. (x && nat_le (n + 1) 9) && list_all is_whole (subidentifiers w)) (is_low b h)

-- one octet before its last
pub whole_more : (n b : ℕ) (w : List ℕ) → 128 ≤ b → whole_after n (subidentifiers (b ∷ w)) ≡ whole_after (n + 1) (subidentifiers w)
whole_more n b w h = ap (whole_after n) (more_octet b w h) ∙ front (subidentifiers w)
  where
    alone : nat_lt b 128 ≡ false → ((nat_lt b 128 && nat_le (n + 1) 9) && true) ≡ false
    alone e = ap (λ x. (x && nat_le (n + 1) 9) && true) e

    none : (ss : List (List ℕ)) → nat_lt b 128 ≡ false → ((nat_lt b 128 && nat_le (n + 1) 9) && list_all is_whole ss) ≡ false
    none ss e = ap (λ x. (x && nat_le (n + 1) 9) && list_all is_whole ss) e

    front : (ss : List (List ℕ)) → whole_after n (in_front b ss) ≡ whole_after (n + 1) ss
    front [] = alone (not_low b h) ∙ grind (arith, nat_tests)
    front ([] ∷ ss) = none ss (not_low b h)
    front ((c ∷ s) ∷ ss) =
        let e : n + suc (suc (length s)) ≡ n + 1 + suc (length s) = omega arith in
        ap (λ k. (ends_below_128 (c ∷ s) && nat_le k 9) && list_all is_whole ss) e

-- nine octets with the high bit are the front of none that is whole
pub too_many : (w : List ℕ) → whole_after 9 (subidentifiers w) ≡ false
too_many w = many (subidentifiers w)
  where
    long : (e : Bool) (s : List ℕ) (ss : List (List ℕ)) → (s ≡ [] → e ≡ false) → ((e && nat_le (9 + length s) 9) && list_all is_whole ss) ≡ false
    long false s ss h = refl
    long true [] ss h = let f : true ≡ false = h refl in cc
    long true (b ∷ s) ss h =
        let e : nat_le (9 + suc (length s)) 9 ≡ false = grind (arith, nat_tests) in ap (λ x. x && list_all is_whole ss) e

    many : (ss : List (List ℕ)) → whole_after 9 ss ≡ false
    many [] = refl
    many (s ∷ ss) = long (ends_below_128 s) s ss (λ e. ap ends_below_128 e)

-- the octet at an index, and those behind it
pub octet_at : (w : List ℕ) (k : ℕ) → k < length w → drop k w ≡ get_or w k 0 ∷ drop (k + 1) w
octet_at w k h = drop-cons w k 0 h ∙ ap (λ m. get_or w k 0 ∷ drop m w) (sym (add-one k))

-- k octets of the first subidentifier of all spell n, and w is behind them
pub record ReadSoFar (all w : List ℕ) (k n : ℕ) : Type 0 where
  pub whole : whole_after k (subidentifiers w) ≡ true
  pub values : values_after n (subidentifiers w) ≡ subidentifier_values all
  pub small : n < 128 ^ k

pub read_none : (w : List ℕ) → AreWhole w → ReadSoFar w w 0 0
read_none w h = record { whole = whole_start w ∙ h; values = values_start w; small = omega arith }

powers : (n k : ℕ) → n < 128 ^ k → k ≤ 8 → n < 128 ^ 8
powers n k h e = omega (arith, h, pow-le-pow_right {n = 128} (omega arith) {i = k} {j = 8} e)

pub and_first : (x y : Bool) → (x && y) ≡ true → x ≡ true
and_first true y e = refl
and_first false y e = e

pub and_second : (x y : Bool) → (x && y) ≡ true → y ≡ true
and_second true y e = e
and_second false y e = let f : false ≡ true = e in cc

-- the numbers stay small
few_octets : (n : ℕ) (ss : List (List ℕ)) → whole_after n ss ≡ true → n ≤ 9
few_octets n [] e = grind (arith, nat_tests)
few_octets n (s ∷ ss) e =
    let f : nat_le (n + length s) 9 ≡ true = and_second (ends_below_128 s) (nat_le (n + length s) 9) (and_first (ends_below_128 s && nat_le (n + length s) 9) (list_all is_whole ss) e) in
    grind (arith, nat_tests)

pub read_small : (all : List ℕ) (b : ℕ) (w : List ℕ) (k n : ℕ) → ReadSoFar all (b ∷ w) k n → n < 128 ^ 8
read_small all b w k n h =
    ⊎_elim
    (λ low.
    let e : (nat_le (k + 1) 9 && list_all is_whole (subidentifiers w)) ≡ true = sym (whole_last k b w low) ∙ h.whole in
    let f : nat_le (k + 1) 9 ≡ true = and_first (nat_le (k + 1) 9) (list_all is_whole (subidentifiers w)) e in
    powers n k h.small (grind (arith, nat_tests)))
    (λ high. powers n k h.small (let e = few_octets (k + 1) (subidentifiers w) (sym (whole_more k b w high) ∙ h.whole) in omega (arith, e)))
    (cases_lt b 128)

-- the last octet of the first one
pub read_last : (all : List ℕ) (b : ℕ) (w : List ℕ) (k n : ℕ) → ReadSoFar all (b ∷ w) k n → b < 128
    → (subidentifier_values all ≡ (n * 128 + b % 128) ∷ subidentifier_values w) × AreWhole w
read_last all b w k n h low = (
  sym h.values ∙ ap (values_after n) (last_octet b w low),
  and_second (nat_le (k + 1) 9) (list_all is_whole (subidentifiers w)) (sym (whole_last k b w low) ∙ h.whole),
)

-- one octet before its last
pub read_more : (all : List ℕ) (b : ℕ) (w : List ℕ) (k n : ℕ) → ReadSoFar all (b ∷ w) k n → 128 ≤ b → ReadSoFar all w (k + 1) (n * 128 + b % 128)
read_more all b w k n h high = record {
  whole = whole;
  values = sym (front (subidentifiers w) whole) ∙ ap (values_after n) (sym (more_octet b w high)) ∙ h.values;
  small = larger;
}
  where
    whole : whole_after (k + 1) (subidentifiers w) ≡ true
    whole = sym (whole_more k b w high) ∙ h.whole

    front : (ss : List (List ℕ)) → whole_after (k + 1) ss ≡ true → values_after n (in_front b ss) ≡ values_after (n * 128 + b % 128) ss
    front [] e = absurd (grind (arith, nat_tests))
    front (s ∷ ss) e = refl

    larger : n * 128 + b % 128 < 128 ^ (k + 1)
    larger = omega (arith, h.small, ap (λ m. 128 ^ m) (add-one k), pow-suc 128 k)
