-- Arcs of any size, one subidentifier after another (X.690 8.19).
use Rattle.std.proofs.Common.{◌≡◌, ℕ, zero, suc, ◌+◌, ◌*◌, ◌%◌, ◌<◌, ◌≤◌, Bool, true, false, List, [], ◌∷◌, length, take, drop, get_or, refl, sym, ap, subst, ◌∙◌, ⊎_elim, arith}
use Rattle.std.specs.Prelude.{◌-◌, ◌↔◌, ◌&&◌, nat_lt, slice_get, Some, IsTrue}
use Rattle.std.specs.Option.{IsSomeAnd}
use Rattle.std.specs.List.{list_all}
use Rattle.std.proofs.lemmas.Bool.{cases_lt, false≢true}
use Rattle.std.proofs.lemmas.Bool.Decides.{nat_tests}
use Rattle.std.proofs.lemmas.Option.{slice_get-get_or}
use Rattle.der_base.specs.Arcs.{in_front, subidentifiers, ends_below_128}
use Rattle.der_base.specs.Octets.{groups_value}
use Rattle.der_base.proofs.Oids.Arcs.{last_octet, more_octet}
use Rattle.der_values.specs.ArcNumbers.{AreEnded}
use Rattle.der_values.specs.Kinds.{EndsSubidentifier}

-- the first subidentifier goes to the first octet below 128
pub first_ends : (w : List ℕ) (n : ℕ) → n < length w → ((k : ℕ) → k < n → 128 ≤ get_or w k 0) → get_or w n 0 < 128
    → subidentifiers w ≡ take (suc n) w ∷ subidentifiers (drop (suc n) w)
first_ends [] n within highs low = absurd (omega arith)
first_ends (b ∷ w) zero within highs low = last_octet b w low
first_ends (b ∷ w) (suc n) within highs low =
    more_octet b w (highs 0 (omega arith)) ∙ ap (in_front b) (first_ends w n (omega arith) (λ k l. highs (suc k) (omega arith)) low)

rest_ended : (s : List ℕ) (ss : List (List ℕ)) → list_all ends_below_128 (s ∷ ss) ≡ true → list_all ends_below_128 ss ≡ true
rest_ended s ss h = both (ends_below_128 s) (list_all ends_below_128 ss) h
  where
    both : (x y : Bool) → (x && y) ≡ true → y ≡ true
    both true y e = e
    both false y e = absurd (false≢true e)

pub rest_is_ended : (w s v : List ℕ) → subidentifiers w ≡ s ∷ subidentifiers v → AreEnded w → AreEnded v
rest_is_ended w s v e h = rest_ended s (subidentifiers v) (sym (ap (list_all ends_below_128) e) ∙ h)

-- The last octet ends the last subidentifier, or doesn't.

in_front_ends : (b c : ℕ) (ss : List (List ℕ)) → list_all ends_below_128 (in_front b (in_front c ss)) ≡ list_all ends_below_128 (in_front c ss)
in_front_ends b c [] = refl
in_front_ends b c (s ∷ ss) = refl

passes : (b : ℕ) (ss : List (List ℕ)) → b < 128 → list_all ends_below_128 ((b ∷ []) ∷ ss) ≡ list_all ends_below_128 ss
passes b ss l = let e : nat_lt b 128 ≡ true = grind (arith, nat_tests) in ap (λ x. x && list_all ends_below_128 ss) e

behind : (b c : ℕ) (w : List ℕ) → list_all ends_below_128 (in_front b (subidentifiers (c ∷ w))) ≡ list_all ends_below_128 (subidentifiers (c ∷ w))
behind b c w = ⊎_elim
    (λ l. ap (λ ss. list_all ends_below_128 (in_front b ss)) (last_octet c w l) ∙ sym (ap (list_all ends_below_128) (last_octet c w l)))
    (λ h. ap (λ ss. list_all ends_below_128 (in_front b ss)) (more_octet c w h) ∙ in_front_ends b c (subidentifiers w) ∙ sym (ap (list_all ends_below_128) (more_octet c w h)))
    (cases_lt c 128)

and_true : (x : Bool) → (x && true) ≡ x
and_true true = refl
and_true false = refl

alone : (b : ℕ) → list_all ends_below_128 ((b ∷ []) ∷ []) ≡ nat_lt b 128
alone b = and_true (nat_lt b 128)

pub last_ends : (w : List ℕ) (n : ℕ) → length w ≡ suc n → list_all ends_below_128 (subidentifiers w) ≡ nat_lt (get_or w n 0) 128
last_ends [] n e = absurd (omega (arith, e))
last_ends (b ∷ []) zero e = ⊎_elim (λ l. ap (list_all ends_below_128) (last_octet b [] l) ∙ alone b) (λ h. ap (list_all ends_below_128) (more_octet b [] h) ∙ alone b) (cases_lt b 128)
last_ends (b ∷ []) (suc n) e = absurd (omega (arith, e))
last_ends (b ∷ c ∷ w) zero e = absurd (omega (arith, e))
last_ends (b ∷ c ∷ w) (suc n) e = ⊎_elim
    (λ l. ap (list_all ends_below_128) (last_octet b (c ∷ w) l) ∙ passes b (subidentifiers (c ∷ w)) l ∙ last_ends (c ∷ w) n (omega (arith, e)))
    (λ h. ap (list_all ends_below_128) (more_octet b (c ∷ w) h) ∙ behind b c w ∙ last_ends (c ∷ w) n (omega (arith, e)))
    (cases_lt b 128)

is_low : (b : ℕ) → b < 128 → nat_lt b 128 ≡ true
is_low b l = grind (arith, nat_tests)

is_high : (b : ℕ) → 128 ≤ b → nat_lt b 128 ≡ false
is_high b h = grind (arith, nat_tests)

not_both : (b : ℕ) → 128 ≤ b → b < 128 → ⊥
not_both b h l = omega arith

is_false : (r : Bool) → (IsTrue r → ⊥) → r ≡ false
is_false true n = absurd (n refl)
is_false false n = refl

pub decided_end : (w : List ℕ) (r : Bool) → 0 < length w → (IsTrue r ↔ EndsSubidentifier w) → r ≡ list_all ends_below_128 (subidentifiers w)
decided_end w r some h =
    let b = get_or w (length w - 1) 0 in
    let last : slice_get w (length w - 1) ≡ Some b = slice_get-get_or w (length w - 1) 0 (omega (arith, some)) in
    let all : list_all ends_below_128 (subidentifiers w) ≡ nat_lt b 128 = last_ends w (length w - 1) (omega (arith, some)) in
    ⊎_elim
    (λ l. h.1 (subst (λ o. IsSomeAnd o (λ x. x < 128)) (sym last) l) ∙ sym (all ∙ is_low b l))
    (λ g. is_false r (λ t. not_both b g (subst (λ o. IsSomeAnd o (λ x. x < 128)) last (h.0 t))) ∙ sym (all ∙ is_high b g))
    (cases_lt b 128)

-- octets of which none is below 128 end nothing
pub none_ends : (w : List ℕ) → AreEnded w → ((k : ℕ) → k < length w → 128 ≤ get_or w k 0) → length w ≤ 0
none_ends [] h highs = omega arith
none_ends (b ∷ w) h highs =
    let high = highs (length w) (omega arith) in
    let e : nat_lt (get_or (b ∷ w) (length w) 0) 128 ≡ false = grind (arith, nat_tests) in
    absurd (false≢true (sym e ∙ sym (last_ends (b ∷ w) (length w) refl) ∙ h))

-- the numbers of groups

pub groups_grow : (n : ℕ) (w : List ℕ) → n ≤ groups_value n w
groups_grow n [] = omega arith
groups_grow n (b ∷ w) = omega (arith, groups_grow (n * 128 + b % 128) w)
