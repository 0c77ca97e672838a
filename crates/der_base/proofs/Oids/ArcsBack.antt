-- The arcs of the octets of arcs (X.690 8.19 and 8.20).
use Rattle.std.proofs.Common.{◌≡◌, ℕ, zero, suc, ◌+◌, ◌*◌, ◌/◌, ◌%◌, ◌^◌, ◌<◌, ◌≤◌, Bool, true, false, if◌then◌else◌, List, [], ◌∷◌, ◌++◌, length, map, refl, sym, ap, ◌∙◌, arith, All}
use Rattle.std.specs.Prelude.{◌&&◌, nat_le, Some, None, Ok, Err}
use Rattle.std.specs.List.{list_all, flat_map}
use Rattle.std.proofs.lemmas.Bool.Decides.{nat_tests}
use Rattle.der_base.specs.Arcs.{in_front, subidentifiers, ends_below_128, is_whole, first_arcs, arcs_of_values, arcs}
use Rattle.der_base.specs.declared.error.OidParseError.TheVariants.{FirstComponentsTooLarge}
use Rattle.der_base.specs.Laws.{AreGroups}
use Rattle.der_base.specs.Octets.{groups, groups_value}
use Rattle.der_base.specs.OidArcs.{have_subidentifier, ArcsComeBack}
use Rattle.der_base.proofs.Oids.Arcs.{last_octet, more_octet}
use Rattle.der_base.proofs.AllByRecursion.{Each, each_from_all}
use Rattle.der_base.proofs.Octets.Shortest.{groups_are, groups_spell}
use Rattle.der_base.proofs.Octets.Shortest.{groups_before_few}

-- groups of seven bits are the first subidentifier of what they begin
groups_first : (s w : List ℕ) → AreGroups s → subidentifiers (s ++ w) ≡ s ∷ subidentifiers w
groups_first [] w h = absurd h
groups_first (b ∷ []) w h = last_octet b w h
groups_first (b ∷ c ∷ s) w h = more_octet b (c ∷ s ++ w) h.0 ∙ ap (in_front b) (groups_first (c ∷ s) w h.2)

groups_end : (s : List ℕ) → AreGroups s → ends_below_128 s ≡ true
groups_end [] h = absurd h
groups_end (b ∷ []) h = grind (arith, nat_tests)
groups_end (b ∷ c ∷ s) h = groups_end (c ∷ s) h.2

-- a number below 2^63 has at most nine groups
few_groups : (n : ℕ) → n < 2 ^ 63 → length (groups n) ≤ 9
few_groups n h = omega (arith, groups_before_few 8 n (n / 128) ((n % 128) ∷ []) (omega arith) (omega arith))

whole_groups : (n : ℕ) → n < 2 ^ 63 → is_whole (groups n) ≡ true
whole_groups n h =
    let few = few_groups n h in
    let e : nat_le (length (groups n)) 9 ≡ true = grind (arith, nat_tests) in
    ap (λ x. x && nat_le (length (groups n)) 9) (groups_end (groups n) (groups_are n)) ∙ e

pub subidentifiers_back : (vs : List ℕ) → subidentifiers (flat_map groups vs) ≡ map groups vs
subidentifiers_back [] = refl
subidentifiers_back (v ∷ vs) = groups_first (groups v) (flat_map groups vs) (groups_are v) ∙ ap (λ l. groups v ∷ l) (subidentifiers_back vs)

all_whole : (vs : List ℕ) → Each (λ v. v < 2 ^ 63) vs → list_all is_whole (map groups vs) ≡ true
all_whole [] h = refl
all_whole (v ∷ vs) h = ap (λ x. x && list_all is_whole (map groups vs)) (whole_groups v h.0) ∙ all_whole vs h.1

values_back : (vs : List ℕ) → map (groups_value 0) (map groups vs) ≡ vs
values_back [] = refl
values_back (v ∷ vs) = ap (λ x. x ∷ map (groups_value 0) (map groups vs)) (groups_spell v) ∙ ap (λ l. v ∷ l) (values_back vs)

-- the arcs of octets, by the numbers of their subidentifiers
arcs_by_values : (relative : Bool) (vs : List ℕ) → All (λ v. v < 2 ^ 63) vs → arcs relative (flat_map groups vs) ≡ Some (arcs_of_values relative vs)
arcs_by_values relative vs h =
    ap (λ ss. if list_all is_whole ss then Some (arcs_of_values relative (map (groups_value 0) ss)) else None) (subidentifiers_back vs)
    ∙ ap (λ x. if x then Some (arcs_of_values relative (map (groups_value 0) (map groups vs))) else None) (all_whole vs (each_from_all (λ v. v < 2 ^ 63) vs h))
    ∙ ap (λ l. Some (arcs_of_values relative l)) (values_back vs)

-- the first two arcs, from their number
first_back : (x y : ℕ) → have_subidentifier x y ≡ true → first_arcs (40 * x + y) ≡ x ∷ y ∷ []
first_back zero y h = grind (arith, nat_tests)
first_back (suc zero) y h = grind (arith, nat_tests)
first_back (suc (suc zero)) y h = grind (arith, nat_tests)
first_back (suc (suc (suc x))) y h = grind (arith, nat_tests)

if_ok : {A E : Type 0} (b : Bool) (x y : A) (e : E) → (if b then Ok x else Err e) ≡ Ok y → (b ≡ true) × (x ≡ y)
if_ok true x y e h = (refl, cc)
if_ok false x y e h = cc

pub arcs_come_back : ArcsComeBack
arcs_come_back true [] w e h = cc
arcs_come_back true (x ∷ given) w e h =
    let same : flat_map groups (x ∷ given) ≡ w = cc in
    ap (arcs true) (sym same) ∙ arcs_by_values true (x ∷ given) h
arcs_come_back false [] w e h = cc
arcs_come_back false (x ∷ []) w e h = cc
arcs_come_back false (x ∷ y ∷ given) w e h =
    let q = if_ok (have_subidentifier x y) (flat_map groups ((40 * x + y) ∷ given)) w FirstComponentsTooLarge e in
    ap (arcs false) (sym q.1) ∙ arcs_by_values false ((40 * x + y) ∷ given) h ∙ ap (λ l. Some (l ++ given)) (first_back x y q.0)
