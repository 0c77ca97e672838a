-- Octets have one list of elements.
use Rattle.std.proofs.Common.{◌≡◌, ℕ, ◌+◌, true, false, List, [], ◌∷◌, ◌++◌, length, refl, sym, ap, subst, ◌∙◌, append_assoc}
use Rattle.der_base.specs.declared.rules.Rules.{Rules}
use Rattle.der_base.specs.declared.rules.Rules.TheVariants.{Ber, Der}
use Rattle.der_base.specs.Octets.{SpellsLength, identifier}
use Rattle.der_base.specs.Spelling.{end_marker}
use Rattle.der_base.proofs.Framing.Elements.{definite_part, identifier_some, open_part}
use Rattle.der_base.proofs.Framing.RawLists.{definite_not_open, definite_same}
use Rattle.der_base.proofs.Octets.Identifiers.{head_same, identifier_same}
use Rattle.der_base.proofs.Octets.ShortestLengths.{shortest_spells}
use Rattle.der_elements.specs.declared.check.element.Element.{Element}
use Rattle.der_elements.specs.Check.Elements.{AreElements, IsElement, SpellsLengthBy, none, one_more, primitive, constructed, indefinite}
use Rattle.der_elements.specs.Check.Laws.{OneListOfElement, OneListOfElements}
use Rattle.der_elements.specs.Check.Listing.{listed, listed_one}
use Rattle.der_elements.proofs.CheckLaws.ElementLaws.{no_zero_first}

pub spells_by_ber : (r : Rules) (s : List ℕ) (n : ℕ) → SpellsLengthBy r s n → SpellsLength s n
spells_by_ber Ber s n h = h
spells_by_ber Der s n h = subst (λ l. SpellsLength l n) (sym h.1) (shortest_spells n h.0)

pub not_empty : {r : Rules} {d : ℕ} {b : List ℕ} (y : List ℕ) → IsElement r d b → [] ≡ b ++ y → ⊥
not_empty {b = b} y (primitive c t s w ht hs e m) q = identifier_some c false t (s ++ (w ++ y)) (q ∙ definite_part c false t s w b y e)
not_empty {b = b} y (constructed c t s w ht hs e m are) q = identifier_some c true t (s ++ (w ++ y)) (q ∙ definite_part c true t s w b y e)
not_empty {b = b} y (indefinite c t w ht er e m are) q = identifier_some c true t (128 ∷ (w ++ (end_marker ++ y))) (q ∙ open_part c true t w b y e)

-- what two elements at the start of an input have
pub record Same (b b' y y' : List ℕ) (es es' : List Element) : Type 0 where
  pub octets : b ≡ b'
  pub list : es ≡ es'
  pub rest : y ≡ y'

mutual
  pub one_same : {r r' : Rules} {d d' : ℕ} {b b' : List ℕ} (y y' : List ℕ) (a a' : ℕ) (is : IsElement r d b) (is' : IsElement r' d' b') → a ≡ a' → b ++ y ≡ b' ++ y'
      → Same b b' y y' (listed_one is a) (listed_one is' a')
  one_same {r = r} {r' = r'} {b = b} {b' = b'} y y' a a' (primitive c t s w ht hs e m) (primitive c' t' s' w' ht' hs' e' m') ea q =
      let (ec, ep, et, es, ew, ey) = definite_same c c' false false t t' s s' w w' y y' (spells_by_ber r s (length w) hs) (spells_by_ber r' s' (length w') hs')
      (sym (definite_part c false t s w b y e) ∙ q ∙ definite_part c' false t' s' w' b' y' e') in
      record { octets = cc; list = cc; rest = ey }
  one_same {r = r} {r' = r'} {b = b} {b' = b'} y y' a a' (primitive c t s w ht hs e m) (constructed c' t' s' w' ht' hs' e' m' are') ea q =
      let z = definite_same c c' false true t t' s s' w w' y y' (spells_by_ber r s (length w) hs) (spells_by_ber r' s' (length w') hs')
      (sym (definite_part c false t s w b y e) ∙ q ∙ definite_part c' true t' s' w' b' y' e') in
      absurd (let p = z.1 in cc)
  one_same {r = r} {b = b} {b' = b'} y y' a a' (primitive c t s w ht hs e m) (indefinite c' t' w' ht' er' e' m' are') ea q =
      absurd (definite_not_open c c' false true t t' (length w) s (w ++ y) (w' ++ (end_marker ++ y')) (spells_by_ber r s (length w) hs)
      (sym (definite_part c false t s w b y e) ∙ q ∙ open_part c' true t' w' b' y' e'))
  one_same {r = r} {r' = r'} {b = b} {b' = b'} y y' a a' (constructed c t s w ht hs e m are) (primitive c' t' s' w' ht' hs' e' m') ea q =
      let z = definite_same c c' true false t t' s s' w w' y y' (spells_by_ber r s (length w) hs) (spells_by_ber r' s' (length w') hs')
      (sym (definite_part c true t s w b y e) ∙ q ∙ definite_part c' false t' s' w' b' y' e') in
      absurd (let p = z.1 in cc)
  one_same {r = r} {r' = r'} {b = b} {b' = b'} y y' a a' (constructed c t s w ht hs e m are) (constructed c' t' s' w' ht' hs' e' m' are') ea q =
      let (ec, ep, et, es, ew, ey) = definite_same c c' true true t t' s s' w w' y y' (spells_by_ber r s (length w) hs) (spells_by_ber r' s' (length w') hs')
      (sym (definite_part c true t s w b y e) ∙ q ∙ definite_part c' true t' s' w' b' y' e') in
      let o = a + length (identifier c true t ++ s) in
      let o' = a' + length (identifier c' true t' ++ s') in
      let eo : o ≡ o' = cc in
      let inside : listed are o ≡ listed are' o' = all_same o o' are are' eo ew in
      record { octets = cc; list = cc; rest = ey }
  one_same {r = r} {b = b} {b' = b'} y y' a a' (constructed c t s w ht hs e m are) (indefinite c' t' w' ht' er' e' m' are') ea q =
      absurd (definite_not_open c c' true true t t' (length w) s (w ++ y) (w' ++ (end_marker ++ y')) (spells_by_ber r s (length w) hs)
      (sym (definite_part c true t s w b y e) ∙ q ∙ open_part c' true t' w' b' y' e'))
  one_same {r' = r'} {b = b} {b' = b'} y y' a a' (indefinite c t w ht er e m are) (primitive c' t' s' w' ht' hs' e' m') ea q =
      absurd (definite_not_open c' c false true t' t (length w') s' (w' ++ y') (w ++ (end_marker ++ y)) (spells_by_ber r' s' (length w') hs')
      (sym (definite_part c' false t' s' w' b' y' e') ∙ sym q ∙ open_part c true t w b y e))
  one_same {r' = r'} {b = b} {b' = b'} y y' a a' (indefinite c t w ht er e m are) (constructed c' t' s' w' ht' hs' e' m' are') ea q =
      absurd (definite_not_open c' c true true t' t (length w') s' (w' ++ y') (w ++ (end_marker ++ y)) (spells_by_ber r' s' (length w') hs')
      (sym (definite_part c' true t' s' w' b' y' e') ∙ sym q ∙ open_part c true t w b y e))
  one_same {b = b} {b' = b'} y y' a a' (indefinite c t w ht er e m are) (indefinite c' t' w' ht' er' e' m' are') ea q =
      let i = identifier_same c c' true true t t' (128 ∷ (w ++ (end_marker ++ y))) (128 ∷ (w' ++ (end_marker ++ y')))
      (sym (open_part c true t w b y e) ∙ q ∙ open_part c' true t' w' b' y' e') in
      let ec = i.0 in
      let et = i.2 in
      let o = a + length (identifier c true t) + 1 in
      let o' = a' + length (identifier c' true t') + 1 in
      let eo : o ≡ o' = cc in
      let z = open_same y y' o o' are are' eo (head_same i.3).1 in
      let ew = z.octets in
      let inside = z.list in
      record { octets = cc; list = cc; rest = z.rest }

  pub all_same : {r r' : Rules} {d d' : ℕ} {i i' : List ℕ} (a a' : ℕ) (are : AreElements r d i) (are' : AreElements r' d' i') → a ≡ a' → i ≡ i' → listed are a ≡ listed are' a'
  all_same a a' none none ea q = refl
  all_same a a' none (one_more b rest e is more) ea q = absurd (not_empty rest is (q ∙ e))
  all_same a a' (one_more b rest e is more) none ea q = absurd (not_empty rest is (sym q ∙ e))
  all_same a a' (one_more b rest e is more) (one_more b' rest' e' is' more') ea q =
      let z = one_same rest rest' a a' is is' ea (sym e ∙ q ∙ e') in
      let ends : a + length b ≡ a' + length b' = (let eb = z.octets in cc) in
      let behind = all_same (a + length b) (a' + length b') more more' ends z.rest in
      ap (λ l. l ++ listed more (a + length b)) z.list ∙ ap (λ l. listed_one is' a' ++ l) behind

  open_same : {r r' : Rules} {d d' : ℕ} {w w' : List ℕ} (y y' : List ℕ) (a a' : ℕ) (are : AreElements r d w) (are' : AreElements r' d' w') → a ≡ a'
      → w ++ (end_marker ++ y) ≡ w' ++ (end_marker ++ y') → Same w w' y y' (listed are a) (listed are' a')
  open_same y y' a a' none none ea q = record { octets = refl; list = refl; rest = (head_same (head_same q).1).1 }
  open_same {r' = r'} {d' = d'} y y' a a' none (one_more b rest e is more) ea q =
      absurd (no_zero_first r' d' b (0 ∷ y) (rest ++ (end_marker ++ y')) is (q ∙ ap (λ l. l ++ (end_marker ++ y')) e ∙ append_assoc b rest (end_marker ++ y')))
  open_same {r = r} {d = d} y y' a a' (one_more b rest e is more) none ea q =
      absurd (no_zero_first r d b (0 ∷ y') (rest ++ (end_marker ++ y)) is (sym q ∙ ap (λ l. l ++ (end_marker ++ y)) e ∙ append_assoc b rest (end_marker ++ y)))
  open_same {w = w} {w' = w'} y y' a a' (one_more b rest e is more) (one_more b' rest' e' is' more') ea q =
      let z = one_same (rest ++ (end_marker ++ y)) (rest' ++ (end_marker ++ y')) a a' is is' ea
      (sym (append_assoc b rest (end_marker ++ y)) ∙ ap (λ l. l ++ (end_marker ++ y)) (sym e) ∙ q ∙ ap (λ l. l ++ (end_marker ++ y')) e' ∙ append_assoc b' rest' (end_marker ++ y')) in
      let eb = z.octets in
      let ends : a + length b ≡ a' + length b' = cc in
      let behind = open_same y y' (a + length b) (a' + length b') more more' ends z.rest in
      let er = behind.octets in
      record {
        octets = cc;
        list = ap (λ l. l ++ listed more (a + length b)) z.list ∙ ap (λ l. listed_one is' a' ++ l) behind.list;
        rest = behind.rest;
      }

pub one_list : OneListOfElements
one_list r r' d d' i a are are' = all_same a a are are' refl refl

pub one_list_of_one : OneListOfElement
one_list_of_one r r' d d' b a is is' = (one_same [] [] a a is is' refl refl).list
