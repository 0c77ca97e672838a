-- Rules one after another.
use Rattle.std.proofs.Common.{◌≡◌, ℕ, ◌<◌, ◌≤◌, true, false, List, [], ◌∷◌, ◌++◌, Result, Ok, Err, refl, sym, subst}
use Rattle.std.proofs.Common.{inl, inr, arith}
use Rattle.std.specs.Prelude.{Bool, nat_lt}
use Rattle.std.proofs.lemmas.Bool.Decides.{nat_tests}
use Rattle.der_base.specs.Leaf.{IsMinimalInteger}
use Rattle.der_base.specs.LeafRefusal.{IsFirstRefusal, integer_tests}
use Rattle.der_base.specs.Refusal.{Refusal}
use Rattle.der_contents.specs.declared.content_error.ContentError.{ContentError}
use Rattle.der_contents.specs.ContentRules.{Rule, AllHold, IsFirstBroken, Checks, choose}

pub both_lists : (rs ss : List Rule) (x : Result (Unit {0}) ContentError) → AllHold rs → Checks ss x
    → Checks (rs ++ ss) x
both_lists [] ss x h c = c
both_lists (r ∷ rs) ss (Ok u) h c = (h.0, both_lists rs ss (Ok u) h.1 c)
both_lists (r ∷ rs) ss (Err e) h c = inr (h.0, both_lists rs ss (Err e) h.1 c)

pub broken_in_front : (rs ss : List Rule) (e : ContentError) → IsFirstBroken rs e → IsFirstBroken (rs ++ ss) e
broken_in_front [] ss e h = absurd h
broken_in_front (r ∷ rs) ss e (inl h) = inl h
broken_in_front (r ∷ rs) ss e (inr h) = inr (h.0, broken_in_front rs ss e h.1)

pub chosen : (a n : ℕ) (rs ss : List Rule) (x : Result (Unit {0}) ContentError) → a < n → Checks rs x
    → Checks (choose (nat_lt a n) rs ss) x
chosen a n rs ss x l h =
    let e : nat_lt a n ≡ true = grind (arith, nat_tests) in
    subst (λ (b : Bool). Checks (choose b rs ss) x) (sym e) h

pub other_chosen : (a n : ℕ) (rs ss : List Rule) (x : Result (Unit {0}) ContentError) → n ≤ a → Checks ss x
    → Checks (choose (nat_lt a n) rs ss) x
other_chosen a n rs ss x l h =
    let e : nat_lt a n ≡ false = grind (arith, nat_tests) in
    subst (λ (b : Bool). Checks (choose b rs ss) x) (sym e) h

-- what the tests of an INTEGER refuse isn't in its fewest octets
pub not_fewest : (w : List ℕ) (e : Refusal) → IsFirstRefusal (integer_tests w) e → IsMinimalInteger w → ⊥
not_fewest w e (inl h) m = subst IsMinimalInteger h.0 m
not_fewest w e (inr (n, inl ((a, v, q, l), k))) m = let p = subst IsMinimalInteger q m in omega (arith, l, p.0 refl)
not_fewest w e (inr (n, inr (o, inl ((a, v, q, l), k)))) m =
    let p = subst IsMinimalInteger q m in
    omega (arith, l, p.1 refl)
not_fewest w e (inr (n, inr (o, inr h))) m = absurd h.1
