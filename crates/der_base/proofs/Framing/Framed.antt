-- The laws again, on the definitions of specs/Framed.
use Rattle.std.proofs.Common.{◌≡◌, ◌≢◌, ℕ, ◌-◌, ◌≤◌, Bool, List, ◌∷◌, ◌++◌, length, refl, sym, ap, ◌∙◌, arith, append_assoc}
use Rattle.der_base.specs.declared.header.Class.{Class}
use Rattle.der_base.specs.declared.header.Length.{Length}
use Rattle.der_base.specs.Octets.{identifier}
use Rattle.der_base.specs.Spelling.{end_marker}
use Rattle.der_base.specs.Inner.Framed.{IsElement, definite, indefinite, AreElements, no_elements, elements}
use Rattle.der_base.proofs.Octets.Identifiers.{head_same, identifier_same}
use Rattle.der_base.proofs.Framing.RawLists.{definite_same, definite_not_open, definite_not_end, open_not_end}
use Rattle.der_base.proofs.Framing.RawLists.{tail_more}

definite_part : (i s w b x : List ℕ) → b ≡ i ++ (s ++ w) → b ++ x ≡ i ++ (s ++ (w ++ x))
definite_part i s w b x d = ap (λ l. l ++ x) d ∙ append_assoc i (s ++ w) x ∙ ap (λ l. i ++ l) (append_assoc s w x)

open_part : (i w b x : List ℕ) → b ≡ i ++ (128 ∷ w ++ end_marker) → b ++ x ≡ i ++ 128 ∷ (w ++ (end_marker ++ x))
open_part i w b x d = ap (λ l. l ++ x) d ∙ append_assoc i (128 ∷ w ++ end_marker) x ∙ ap (λ l. i ++ 128 ∷ l) (append_assoc w end_marker x)

pub record SameElement (b b' : List ℕ) (h h' : Length) (c c' : Class) (p p' : Bool) (t t' : ℕ) (w w' x y : List ℕ) : Type 0 where
  pub length : h ≡ h'
  pub class : c ≡ c'
  pub constructed : p ≡ p'
  pub number : t ≡ t'
  pub content : w ≡ w'
  pub octets : b ≡ b'
  pub rest : x ≡ y

-- an element that stands where an end marker stands is one
pub at_marker : {b : List ℕ} {h : Length} {c : Class} {p : Bool} {t : ℕ} {w : List ℕ} {k : ℕ} (x y : List ℕ) → IsElement b h c p t w k → b ++ x ≡ end_marker ++ y → b ≢ end_marker → ⊥
at_marker x y (definite {b = b} {c = c} {p = p} {t = t} {w = w} s eh ht hk hs d) e n =
    definite_not_end c p t s w x y hs (λ z. n (d ∙ sym (append_assoc (identifier c p t) s w) ∙ z)) (sym (definite_part (identifier c p t) s w b x d) ∙ e)
at_marker x y (indefinite {b = b} {c = c} {p = p} {t = t} {w = w} eh ep ht hk hw d) e n = open_not_end c p t (w ++ (end_marker ++ x)) y (sym (open_part (identifier c p t) w b x d) ∙ e)

mutual
  pub element_same : {b b' : List ℕ} {h h' : Length} {c c' : Class} {p p' : Bool} {t t' : ℕ} {w w' : List ℕ} {k k' : ℕ} (x y : List ℕ) → IsElement b h c p t w k → IsElement b' h' c' p' t' w' k'
      → b ++ x ≡ b' ++ y → SameElement b b' h h' c c' p p' t t' w w' x y
  element_same x y (definite {b = b} {c = c} {p = p} {t = t} {w = w} s eh ht hk hs d) (definite {b = b'} {c = c'} {p = p'} {t = t'} {w = w'} s' eh' ht' hk' hs' d') e =
      let q = definite_same c c' p p' t t' s s' w w' x y hs hs' (sym (definite_part (identifier c p t) s w b x d) ∙ e ∙ definite_part (identifier c' p' t') s' w' b' y d') in
      record { length = cc; class = q.0; constructed = q.1; number = q.2; content = q.4; octets = cc; rest = q.5 }
  element_same x y (definite {b = b} {c = c} {p = p} {t = t} {w = w} s eh ht hk hs d) (indefinite {b = b'} {c = c'} {p = p'} {t = t'} {w = w'} eh' ep' ht' hk' hw' d') e =
      absurd (definite_not_open c c' p p' t t' (length w) s (w ++ x) (w' ++ (end_marker ++ y)) hs (sym (definite_part (identifier c p t) s w b x d) ∙ e ∙ open_part (identifier c' p' t') w' b' y d'))
  element_same x y (indefinite {b = b} {c = c} {p = p} {t = t} {w = w} eh ep ht hk hw d) (definite {b = b'} {c = c'} {p = p'} {t = t'} {w = w'} s' eh' ht' hk' hs' d') e =
      absurd (definite_not_open c' c p' p t' t (length w') s' (w' ++ y) (w ++ (end_marker ++ x)) hs'
      (sym (definite_part (identifier c' p' t') s' w' b' y d') ∙ sym e ∙ open_part (identifier c p t) w b x d))
  element_same x y (indefinite {b = b} {c = c} {p = p} {t = t} {w = w} eh ep ht hk hw d) (indefinite {b = b'} {c = c'} {p = p'} {t = t'} {w = w'} eh' ep' ht' hk' hw' d') e =
      let i = identifier_same c c' p p' t t' (128 ∷ (w ++ (end_marker ++ x))) (128 ∷ (w' ++ (end_marker ++ y)))
      (sym (open_part (identifier c p t) w b x d) ∙ e ∙ open_part (identifier c' p' t') w' b' y d') in
      let q = elements_same x y hw hw' (head_same i.3).1 in
      record { length = eh ∙ sym eh'; class = i.0; constructed = i.1; number = i.2; content = q.0; octets = cc; rest = q.1 }

  -- the end marker behind elements is found at one place
  pub elements_same : {u u' : List ℕ} {k k' : ℕ} (x y : List ℕ) → AreElements u k → AreElements u' k' → u ++ (end_marker ++ x) ≡ u' ++ (end_marker ++ y) → (u ≡ u') × (x ≡ y)
  elements_same x y no_elements no_elements e = (refl, (head_same (head_same e).1).1)
  elements_same x y no_elements (elements {w = u'} {b = b'} {rest = rest'} g' n' r' d') e =
      absurd (at_marker (rest' ++ (end_marker ++ y)) x g' (sym (tail_more b' rest' u' (end_marker ++ y) d') ∙ sym e) n')
  elements_same x y (elements {w = u} {b = b} {rest = rest} g n r d) no_elements e = absurd (at_marker (rest ++ (end_marker ++ x)) y g (sym (tail_more b rest u (end_marker ++ x) d) ∙ e) n)
  elements_same x y (elements {w = u} {b = b} {rest = rest} g n r d) (elements {w = u'} {b = b'} {rest = rest'} g' n' r' d') e =
      let q = element_same (rest ++ (end_marker ++ x)) (rest' ++ (end_marker ++ y)) g g' (sym (tail_more b rest u (end_marker ++ x) d) ∙ e ∙ tail_more b' rest' u' (end_marker ++ y) d') in
      let z = elements_same x y r r' q.rest in
      let o = q.octets in
      (cc, z.1)

mutual
  pub element_more : {b : List ℕ} {h : Length} {c : Class} {p : Bool} {t : ℕ} {w : List ℕ} {k : ℕ} (m : ℕ) → k ≤ m → IsElement b h c p t w k → IsElement b h c p t w m
  element_more m le (definite s eh ht hk hs d) = definite s eh ht (omega (arith, hk, le)) hs d
  element_more m le (indefinite eh ep ht hk hw d) = indefinite eh ep ht (omega (arith, hk, le)) (elements_more (m - 1) (omega (arith, le)) hw) d

  pub elements_more : {w : List ℕ} {k : ℕ} (m : ℕ) → k ≤ m → AreElements w k → AreElements w m
  elements_more m le no_elements = no_elements
  elements_more m le (elements g n r d) = elements (element_more m le g) n (elements_more m le r) d

pub elements_append : {u : List ℕ} {k : ℕ} (x : List ℕ) → AreElements u k → AreElements x k → AreElements (u ++ x) k
elements_append x no_elements h = h
elements_append x (elements {w = u} {b = b} {rest = rest} g n r d) h = elements g n (elements_append x r h) (tail_more b rest u x d)
