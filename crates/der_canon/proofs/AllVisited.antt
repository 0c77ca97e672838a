-- Elements are visited.
use Rattle.std.proofs.Common.{ℕ, suc, ◌+◌, true, false, List, [], ◌∷◌, ◌++◌, length, refl, sym, ap, ◌∙◌, append_assoc}
use Rattle.der_base.specs.Octets.{identifier}
use Rattle.der_base.specs.Spelling.{end_marker}
use Rattle.der_base.specs.declared.rules.Rules.{Rules}
use Rattle.der_elements.specs.Check.Elements.{AreElements, IsElement}
use Rattle.der_elements.specs.Check.Elements.{none as no_elements, one_more as one_element, primitive as primitive_element, constructed as constructed_element, indefinite as indefinite_element}
use Rattle.der_elements.specs.Visits.{Visited, Visits, VisitsOne, none, one_more, primitive, constructed, indefinite}
use Rattle.der_canon.specs.Same.{no_extras}

mutual
  pub all_visited : {r : Rules} {d : ℕ} {i : List ℕ} → AreElements r d i → (k a : ℕ) → (vs : List Visited) × Visits no_extras r d k a i vs
  all_visited no_elements k a = ([], none)
  all_visited (one_element b rest e is more) k a =
      let one = one_visited is k a in
      let others = all_visited more k (a + length b) in
      (one.0 ++ others.0, one_more b rest one.0 others.0 e refl one.1 others.1)

  one_visited : {r : Rules} {d : ℕ} {b : List ℕ} → IsElement r d b → (k a : ℕ) → (vs : List Visited) × VisitsOne no_extras r d k a b vs
  one_visited (primitive_element c t s w l len e may) k a =
      let h = identifier c false t ++ s in
      (_, primitive c t h w (l, s, len, refl) e may (λ enters. absurd (cc)) refl)
  one_visited (constructed_element c t s w l len e may more) k a =
      let h = identifier c true t ++ s in
      let inside = all_visited more (suc k) (a + length h) in
      (_, constructed c t h w inside.0 (l, s, len, refl) e may inside.1 refl)
  one_visited (indefinite_element c t w l ber e may more) k a =
      let h = identifier c true t ++ 128 ∷ [] in
      let inside = all_visited more (suc k) (a + length h) in
      (_, indefinite c t h w inside.0 (l, ber, refl, refl) (e ∙ sym (ap (λ l. l ++ end_marker) (append_assoc (identifier c true t) (128 ∷ []) w))) may inside.1 refl)
