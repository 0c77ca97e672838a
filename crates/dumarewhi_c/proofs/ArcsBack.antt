-- The arcs of the octets of dotted texts (X.690 8.19).
use Rattle.std.proofs.Common.{◌≡◌, ℕ, zero, suc, ◌+◌, ◌*◌, ◌^◌, Bool, true, false, if◌then◌else◌, List, [], ◌∷◌, ◌++◌, length, map, refl, sym, ap, ◌∙◌, arith}
use Rattle.std.specs.Prelude.{◌&&◌, nat_lt, Some, None}
use Rattle.std.specs.List.{list_all, flat_map}
use Rattle.std.specs.Option.{option_and_then}
use Rattle.std.specs.Str.{all_ascii_digits}
use Rattle.std.specs.Str.Parse.{digits_value}
use Rattle.std.proofs.lemmas.Bool.Decides.{nat_tests}
use Rattle.der_base.specs.Arcs.{ends_below_128, first_arcs, arcs_of_values}
use Rattle.der_base.specs.Laws.{AreGroups}
use Rattle.der_base.specs.Octets.{groups, groups_value}
use Rattle.der_base.specs.OidArcs.{components}
use Rattle.der_base.proofs.Oids.Arcs.{and_first, and_second}
use Rattle.der_base.proofs.Oids.ArcsBack.{subidentifiers_back}
use Rattle.der_base.proofs.Octets.Shortest.{groups_are, groups_spell}
use Rattle.der_values.specs.ArcNumbers.{fits_u128, u128_arcs}
use Rattle.dumarewhi_c.specs.DottedTexts.{TextsComeBack, have_subidentifier, is_arc, octets_of_arcs}

abbrev is_small : ℕ → Bool
is_small v = nat_lt v (2 ^ 128)

groups_end : (s : List ℕ) → AreGroups s → ends_below_128 s ≡ true
groups_end [] h = absurd h
groups_end (b ∷ []) h = grind (arith, nat_tests)
groups_end (b ∷ c ∷ s) h = groups_end (c ∷ s) h.2

groups_fit : (v : ℕ) → is_small v ≡ true → fits_u128 (groups v) ≡ true
groups_fit v h =
    ap (λ b. b && nat_lt (groups_value 0 (groups v)) (2 ^ 128)) (groups_end (groups v) (groups_are v)) ∙ ap is_small (groups_spell v) ∙ h

all_fit : (vs : List ℕ) → list_all is_small vs ≡ true → list_all fits_u128 (map groups vs) ≡ true
all_fit [] h = refl
all_fit (v ∷ vs) h =
    ap (λ b. b && list_all fits_u128 (map groups vs)) (groups_fit v (and_first (is_small v) (list_all is_small vs) h))
    ∙ all_fit vs (and_second (is_small v) (list_all is_small vs) h)

values_back : (vs : List ℕ) → map (groups_value 0) (map groups vs) ≡ vs
values_back [] = refl
values_back (v ∷ vs) = ap (λ n. n ∷ map (groups_value 0) (map groups vs)) (groups_spell v) ∙ ap (λ l. v ∷ l) (values_back vs)

by_values : (vs : List ℕ) → list_all is_small vs ≡ true → u128_arcs false (flat_map groups vs) ≡ Some (arcs_of_values false vs)
by_values vs h =
    ap (λ ss. if list_all fits_u128 ss then Some (arcs_of_values false (map (groups_value 0) ss)) else None) (subidentifiers_back vs)
    ∙ ap (λ b. if b then Some (arcs_of_values false (map (groups_value 0) (map groups vs))) else None) (all_fit vs h)
    ∙ ap (λ l. Some (arcs_of_values false l)) (values_back vs)

first_back : (x y : ℕ) → have_subidentifier x y ≡ true → first_arcs (40 * x + y) ≡ x ∷ y ∷ []
first_back zero y h = grind (arith, nat_tests)
first_back (suc zero) y h = grind (arith, nat_tests)
first_back (suc (suc zero)) y h = grind (arith, nat_tests)
first_back (suc (suc (suc x))) y h = grind (arith, nat_tests)

first_small : (x y : ℕ) → have_subidentifier x y ≡ true → is_small (40 * x + y) ≡ true
first_small zero y h = grind (arith, nat_tests)
first_small (suc zero) y h = grind (arith, nat_tests)
first_small (suc (suc zero)) y h = grind (arith, nat_tests)
first_small (suc (suc (suc x))) y h = grind (arith, nat_tests)

if_some : {A : Type 0} (b : Bool) (x y : A) → (if b then Some x else None) ≡ Some y → (b ≡ true) × (x ≡ y)
if_some true x y h = (refl, cc)
if_some false x y h = cc

arcs_back : (given w : List ℕ) → list_all is_small given ≡ true → octets_of_arcs given ≡ Some w → u128_arcs false w ≡ Some given
arcs_back [] w small e = cc
arcs_back (x ∷ []) w small e = cc
arcs_back (x ∷ y ∷ others) w small e =
    let first = 40 * x + y in
    let q = if_some (have_subidentifier x y) (flat_map groups (first ∷ others)) w e in
    let rest = and_second (is_small y) (list_all is_small others) (and_second (is_small x) (list_all is_small (y ∷ others)) small) in
    let all : list_all is_small (first ∷ others) ≡ true = ap (λ b. b && list_all is_small others) (first_small x y q.0) ∙ rest in
    ap (u128_arcs false) (sym q.1) ∙ by_values (first ∷ others) all ∙ ap (λ l. Some (l ++ others)) (first_back x y q.0)

arcs_small : (cs : List (List ℕ)) → list_all is_arc cs ≡ true → list_all is_small (map (digits_value 10) cs) ≡ true
arcs_small [] h = refl
arcs_small (c ∷ cs) h =
    let small = is_small (digits_value 10 c) in
    let arc = and_first (is_arc c) (list_all is_arc cs) h in
    let here = and_second (all_ascii_digits c) small (and_second (nat_lt 0 (length c)) (all_ascii_digits c && small) arc) in
    ap (λ b. b && list_all is_small (map (digits_value 10) cs)) here ∙ arcs_small cs (and_second (is_arc c) (list_all is_arc cs) h)

by_test : (cs : List (List ℕ)) (t : Bool) (w : List ℕ) → list_all is_arc cs ≡ t
    → option_and_then octets_of_arcs (if t then Some (map (digits_value 10) cs) else None) ≡ Some w
    → u128_arcs false w ≡ (if t then Some (map (digits_value 10) cs) else None)
by_test cs true w all e = arcs_back (map (digits_value 10) cs) w (arcs_small cs all) e
by_test cs false w all e = cc

pub texts_come_back : TextsComeBack
texts_come_back text w e = by_test (components text) (list_all is_arc (components text)) w refl e
