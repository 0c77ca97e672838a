-- The arcs of octets, one subidentifier after another (X.690 8.19).
use Rattle.std.proofs.Common.{◌≡◌, ◌≢◌, ℕ, ◌+◌, ◌-◌, ◌*◌, ◌%◌, ◌^◌, ◌<◌, ◌≤◌, ◌⊎◌, Bool, true, false, if◌then◌else◌, List, [], ◌∷◌, ◌++◌, length, map, take, drop, get_or, Some, None, refl, sym, ap, ◌∙◌, ⊎_elim, inl, inr, arith}
use Rattle.std.specs.Prelude.{◌↔◌, ◌&&◌, ◌==◌, nat_le, Option}
use Rattle.std.specs.List.{list_all}
use Rattle.std.specs.Option.{option_map}
use Rattle.std.proofs.lemmas.Bool.{cases_lt}
use Rattle.std.proofs.lemmas.Bool.Decides.{nat_tests}
use Rattle.std.proofs.lemmas.List.{take_all}
use Rattle.std.proofs.Math.Nat.{pow-le-pow_right}
use Rattle.der_base.specs.Arcs.{in_front, subidentifiers, is_whole, first_arcs, arcs_of_values, arcs}
use Rattle.der_base.specs.Octets.{groups_value}
use Rattle.der_base.specs.OidArcs.{subidentifier_values}
use Rattle.der_base.proofs.Oids.Arcs.{whole_after, values_after, whole_start, whole_last, whole_more, too_many, last_octet, more_octet}

-- the numbers of subidentifiers, where k octets of the first one spelled n; none where one isn't whole
abbrev pub numbers_after : ℕ → ℕ → List (List ℕ) → Option (List ℕ)
numbers_after k n ss = if whole_after k ss then Some (values_after n ss) else None

pub numbers_start : (w : List ℕ) → numbers_after 0 0 (subidentifiers w) ≡ arcs true w
numbers_start w =
    ap (λ x. if x then Some (values_after 0 (subidentifiers w)) else None) (whole_start w)
    ∙ ap (λ vs. if list_all is_whole (subidentifiers w) then Some vs else None) (values (subidentifiers w))
  where
    values : (ss : List (List ℕ)) → values_after 0 ss ≡ map (groups_value 0) ss
    values [] = refl
    values (s ∷ ss) = refl

-- the last octet of the first one
pub numbers_last : (k n b : ℕ) (w : List ℕ) → b < 128 → k ≤ 8 → numbers_after k n (subidentifiers (b ∷ w)) ≡ option_map (λ vs. (n * 128 + b % 128) ∷ vs) (arcs true w)
numbers_last k n b w low few =
    let fits : nat_le (k + 1) 9 ≡ true = grind (arith, nat_tests) in
    let all = list_all is_whole (subidentifiers w) in
    ap (λ x. if x then Some (values_after n (subidentifiers (b ∷ w))) else None) (whole_last k b w low ∙ ap (λ x. x && all) fits)
    ∙ ap (λ ss. if all then Some (values_after n ss) else None) (last_octet b w low)
    ∙ mapped all (n * 128 + b % 128) (subidentifier_values w)
  where
    mapped : (x : Bool) (v : ℕ) (vs : List ℕ) → (if x then Some (v ∷ vs) else None) ≡ option_map (λ us. v ∷ us) (if x then Some vs else None)
    mapped true v vs = refl
    mapped false v vs = refl

-- one before its last
pub numbers_more : (k n b : ℕ) (w : List ℕ) → 128 ≤ b → numbers_after k n (subidentifiers (b ∷ w)) ≡ numbers_after (k + 1) (n * 128 + b % 128) (subidentifiers w)
numbers_more k n b w high =
    ap (λ x. if x then Some (values_after n (subidentifiers (b ∷ w))) else None) (whole_more k b w high)
    ∙ ap (λ ss. if whole_after (k + 1) (subidentifiers w) then Some (values_after n ss) else None) (more_octet b w high)
    ∙ front (subidentifiers w)
  where
    front : (ss : List (List ℕ)) → (if whole_after (k + 1) ss then Some (values_after n (in_front b ss)) else None) ≡ numbers_after (k + 1) (n * 128 + b % 128) ss
    front [] =
        let none : (k + 1 == 0) ≡ false = grind (arith, nat_tests) in
        ap (λ x. if x then Some (values_after n (in_front b [])) else None) none ∙ sym (ap (λ x. if x then Some [] else None) none)
    front (s ∷ ss) = refl

-- nine octets without a last one
pub too_long : (n : ℕ) (w : List ℕ) → numbers_after 9 n (subidentifiers w) ≡ None
too_long n w = ap (λ x. if x then Some (values_after n (subidentifiers w)) else None) (too_many w)

-- no last octet
pub cut_short : (k n : ℕ) → 0 < k → numbers_after k n (subidentifiers []) ≡ None
cut_short k n some =
    let e : (k == 0) ≡ false = grind (arith, nat_tests) in
    ap (λ x. if x then Some [] else None) e

pub few_groups : (k n : ℕ) → n < 128 ^ k → k ≤ 8 → n < 128 ^ 8
few_groups k n h few = omega (arith, h, pow-le-pow_right {n = 128} (omega arith) {i = k} {j = 8} few)

-- lists of arcs with one in front

pub same_front : (o : Option (List ℕ)) (v : ℕ) (vs : List ℕ) → (option_map (λ us. v ∷ us) o ≡ Some (v ∷ vs)) ↔ (o ≡ Some vs)
same_front None v vs = ((λ e. cc), (λ e. cc))
same_front (Some us) v vs = ((λ e. cc), (λ e. cc))

pub front_is : (o : Option (List ℕ)) (v a : ℕ) (vs : List ℕ) → option_map (λ us. v ∷ us) o ≡ Some (a ∷ vs) → v ≡ a
front_is None v a vs e = cc
front_is (Some us) v a vs e = cc

-- octets without a first subidentifier have no arcs, or are none
pub none_in_front : (w : List ℕ) (a : ℕ) (vs : List ℕ) → (w ≡ []) ⊎ (arcs true w ≡ None) → arcs true w ≡ Some (a ∷ vs) → ⊥
none_in_front w a vs (inl e) h = let f : Some [] ≡ Some (a ∷ vs) = sym (ap (arcs true) e) ∙ h in cc
none_in_front w a vs (inr e) h = cc

-- octets whose list of arcs is empty are none
one_or_more : (b : ℕ) (w : List ℕ) → subidentifiers (b ∷ w) ≢ []
one_or_more b w e = ⊎_elim (λ l. first (subidentifiers w) (sym (last_octet b w l) ∙ e)) (λ h. fronted (subidentifiers w) (sym (more_octet b w h) ∙ e)) (cases_lt b 128)
  where
    first : (ss : List (List ℕ)) → ((b ∷ []) ∷ ss) ≡ [] → ⊥
    first ss e = cc

    fronted : (ss : List (List ℕ)) → in_front b ss ≡ [] → ⊥
    fronted [] e = cc
    fronted (s ∷ ss) e = cc

pub no_arcs : (w : List ℕ) → arcs true w ≡ Some [] → w ≡ []
no_arcs [] e = refl
no_arcs (b ∷ w) e = absurd (some (subidentifiers (b ∷ w)) (one_or_more b w) e)
  where
    chosen : (x : Bool) (v : ℕ) (vs : List ℕ) → (if x then Some (v ∷ vs) else None) ≡ Some [] → ⊥
    chosen true v vs e = cc
    chosen false v vs e = cc

    some : (ss : List (List ℕ)) → ss ≢ [] → (if list_all is_whole ss then Some (map (groups_value 0) ss) else None) ≡ Some [] → ⊥
    some [] n e = n refl
    some (s ∷ ss) n e = chosen (list_all is_whole (s ∷ ss)) (groups_value 0 s) (map (groups_value 0) ss) e

-- the arcs of an absolute identifier, by its numbers
pub absolute : (w : List ℕ) → arcs false w ≡ option_map (arcs_of_values false) (arcs true w)
absolute w = chosen (list_all is_whole (subidentifiers w)) (subidentifier_values w)
  where
    chosen : (x : Bool) (vs : List ℕ) → (if x then Some (arcs_of_values false vs) else None) ≡ option_map (arcs_of_values false) (if x then Some vs else None)
    chosen true vs = refl
    chosen false vs = refl

two_or_more : (v : ℕ) (vs : List ℕ) → length (first_arcs v ++ vs) ≡ 2 + length vs
two_or_more v vs = grind (arith, nat_tests)

-- with fewer than two arcs it has no octets
pub fewer_than_two : (w wanted : List ℕ) → length wanted ≤ 1 → arcs false w ≡ Some wanted → (wanted ≡ []) × (w ≡ [])
fewer_than_two w wanted few e = by_numbers (arcs true w) (no_arcs w) (sym (absolute w) ∙ e)
  where
    by_numbers : (o : Option (List ℕ)) → (o ≡ Some [] → w ≡ []) → option_map (arcs_of_values false) o ≡ Some wanted → (wanted ≡ []) × (w ≡ [])
    by_numbers None none e = absurd (cc)
    by_numbers (Some []) none e = let f : wanted ≡ [] = cc in (f, none refl)
    by_numbers (Some (v ∷ vs)) none e = let f : first_arcs v ++ vs ≡ wanted = cc in absurd (omega (arith, few, ap length f, two_or_more v vs))

-- with two or more, the first two are in the first subidentifier
pub first_two : (w rest further : List ℕ) (v x y a b : ℕ) → arcs true w ≡ option_map (λ us. v ∷ us) (arcs true rest) → first_arcs v ≡ x ∷ y ∷ []
    → (arcs false w ≡ Some (a ∷ b ∷ further)) ↔ ((x ≡ a) × (y ≡ b) × (arcs true rest ≡ Some further))
first_two w rest further v x y a b e f = by_rest (arcs true rest) (absolute w ∙ ap (option_map (arcs_of_values false)) e)
  where
    by_rest : (o : Option (List ℕ)) → arcs false w ≡ option_map (arcs_of_values false) (option_map (λ us. v ∷ us) o)
        → (arcs false w ≡ Some (a ∷ b ∷ further)) ↔ ((x ≡ a) × (y ≡ b) × (o ≡ Some further))
    by_rest None h = ((λ k. let g : None ≡ Some (a ∷ b ∷ further) = sym h ∙ k in cc), (λ k. let g : None ≡ Some further = k.2 in cc))
    by_rest (Some us) h =
        let all : arcs false w ≡ Some (x ∷ y ∷ us) = h ∙ ap (λ l. Some (l ++ us)) f in (
          (λ k.
              let g : Some (x ∷ y ∷ us) ≡ Some (a ∷ b ∷ further) = sym all ∙ k in
              let p : x ≡ a = cc in
              let q : y ≡ b = cc in
              let r : us ≡ further = cc in
              (p, q, ap Some r)),
          (λ k. let r : us ≡ further = cc in all ∙ ap (λ z. Some (z ∷ y ∷ us)) k.0 ∙ ap (λ z. Some (a ∷ z ∷ us)) k.1 ∙ ap (λ l. Some (a ∷ b ∷ l)) r),
        )

pub no_first_two : (w further : List ℕ) (a b : ℕ) → (w ≡ []) ⊎ (arcs true w ≡ None) → arcs false w ≡ Some (a ∷ b ∷ further) → ⊥
no_first_two w further a b (inl e) h = let f : Some [] ≡ Some (a ∷ b ∷ further) = sym (ap (arcs false) e) ∙ h in cc
no_first_two w further a b (inr e) h = let f : None ≡ Some (a ∷ b ∷ further) = sym (absolute w ∙ ap (option_map (arcs_of_values false)) e) ∙ h in cc

pub none_of_length : (w : List ℕ) → length w ≤ 0 → w ≡ []
none_of_length [] h = refl
none_of_length (b ∷ w) h = absurd (omega arith)

pub first_and_second : (ws : List ℕ) → 2 ≤ length ws → ws ≡ get_or ws 0 0 ∷ get_or ws 1 0 ∷ take (length ws - 2) (drop 2 ws)
first_and_second [] h = absurd (omega arith)
first_and_second (x ∷ []) h = absurd (omega arith)
first_and_second (x ∷ y ∷ ws) h = ap (λ l. x ∷ y ∷ l) (sym (take_all (length (x ∷ y ∷ ws) - 2) ws (omega arith)))
