-- Shapes: elements of any size, cut in one way only, and inputs that are cut short.
use Rattle.std.proofs.Common.{◌≡◌, ◌≢◌, ℕ, Bool, true, false, List, [], ◌∷◌, ◌++◌, length, refl, sym, ap, ◌∙◌, arith, append_assoc, inl, inr, ⊎_elim, append-nil}
use Rattle.der_base.specs.declared.header.Class.{Class}
use Rattle.der_base.specs.declared.header.Class.TheVariants.{Universal}
use Rattle.der_base.specs.Octets.{SpellsAnyLength, identifier, number, SpellsLength}
use Rattle.der_base.specs.Spelling.{IsRawList, empty, definite, indefinite, end_marker, BeginsWithElement}
use Rattle.der_base.specs.Cut.{AreShapes, no_shapes, definite_shape, indefinite_shape, IsShape, IsCut}
use Rattle.der_base.proofs.Octets.Identifiers.{head_same, fronts_same, identifier_same}
use Rattle.der_base.proofs.Framing.RawLists.{definite_more, open_more}
use Rattle.der_base.proofs.Framing.Elements.{IsElement, begins_element, definite_part, open_part}
use Rattle.der_base.proofs.Framing.RawLists.{marker_is}

-- a length ends where it ends
pub any_length_same : (s s' : List ℕ) (n n' : ℕ) (x y : List ℕ) → SpellsAnyLength s n → SpellsAnyLength s' n' → s ++ x ≡ s' ++ y → (s ≡ s') × (n ≡ n') × (x ≡ y)
any_length_same [] s' n n' x y h h' e = absurd h
any_length_same (b ∷ bs) [] n n' x y h h' e = absurd h'
any_length_same (b ∷ bs) (b' ∷ bs') n n' x y h h' e =
    let p = head_same e in
    ⊎_elim
    (λ a. ⊎_elim
    (λ a'. (cc, omega (arith, p.0, a.2, a'.2), ap (λ l. l ++ x) (sym a.1) ∙ p.1 ∙ ap (λ l. l ++ y) a'.1))
    (λ a'. absurd (omega (arith, p.0, a.0, a'.1)))
    h')
    (λ a. ⊎_elim
    (λ a'. absurd (omega (arith, p.0, a'.0, a.1)))
    (λ a'.
    let q = fronts_same bs bs' x y (omega (arith, p.0, a.1, a'.1)) p.1 in
    (cc, a.3 ∙ ap number q.0 ∙ sym a'.3, q.1))
    h')
    h

-- a definite length does not begin as an indefinite one
pub any_length_not_open : (s : List ℕ) (n : ℕ) (x y : List ℕ) → SpellsAnyLength s n → s ++ x ≡ 128 ∷ y → ⊥
any_length_not_open [] n x y h e = absurd h
any_length_not_open (b ∷ bs) n x y h e =
    let p = head_same e in
    ⊎_elim (λ a. omega (arith, p.0, a.0)) (λ a. omega (arith, p.0, a.1, a.2)) h

-- a definite element ends where it ends
definite_same : (c c' : Class) (p p' : Bool) (t t' : ℕ) (s s' v v' x y : List ℕ) → SpellsAnyLength s (length v) → SpellsAnyLength s' (length v')
    → identifier c p t ++ (s ++ (v ++ x)) ≡ identifier c' p' t' ++ (s' ++ (v' ++ y))
    → (c ≡ c') × (p ≡ p') × (t ≡ t') × (s ≡ s') × (v ≡ v') × (x ≡ y)
definite_same c c' p p' t t' s s' v v' x y h h' e =
    let i = identifier_same c c' p p' t t' (s ++ (v ++ x)) (s' ++ (v' ++ y)) e in
    let l = any_length_same s s' (length v) (length v') (v ++ x) (v' ++ y) h h' i.3 in
    let w = fronts_same v v' x y l.1 l.2 in
    (i.0, i.1, i.2, l.0, w.0, w.1)

-- no element begins in both ways
definite_not_open : (c c' : Class) (p p' : Bool) (t t' n : ℕ) (s x y : List ℕ) → SpellsAnyLength s n → identifier c p t ++ (s ++ x) ≡ identifier c' p' t' ++ 128 ∷ y → ⊥
definite_not_open c c' p p' t t' n s x y h e =
    let i = identifier_same c c' p p' t t' (s ++ x) (128 ∷ y) e in
    any_length_not_open s n x y h i.3

zero_length : SpellsAnyLength (0 ∷ []) 0
zero_length = inl (omega arith, refl, refl)

definite_not_end : (c : Class) (p : Bool) (t : ℕ) (s v x y : List ℕ) → SpellsAnyLength s (length v) → identifier c p t ++ s ++ v ≢ end_marker → identifier c p t ++ (s ++ (v ++ x)) ≡ end_marker ++ y
    → ⊥
definite_not_end c p t s v x y h n e =
    let q = definite_same c Universal p false t 0 s (0 ∷ []) v [] x y h zero_length (e ∙ sym (marker_is y)) in
    let r : identifier c p t ++ s ++ v ≡ identifier Universal false 0 ++ (0 ∷ []) ++ [] = cc in
    n (r ∙ append-nil (identifier Universal false 0 ++ 0 ∷ []) ∙ marker_is [])

-- nor does the end marker begin as an indefinite one
pub open_not_end : (c : Class) (p : Bool) (t : ℕ) (x y : List ℕ) → identifier c p t ++ 128 ∷ x ≡ end_marker ++ y → ⊥
open_not_end c p t x y e = definite_not_open Universal c false p 0 t 0 (0 ∷ []) y x zero_length (marker_is y ∙ sym e)

-- the end marker behind a list of elements is found at one place
pub shapes_same : {u u' : List ℕ} (x y : List ℕ) → AreShapes u → AreShapes u' → u ++ (end_marker ++ x) ≡ u' ++ (end_marker ++ y) → (u ≡ u') × (x ≡ y)
shapes_same x y no_shapes no_shapes e = (refl, (head_same (head_same e).1).1)
shapes_same x y no_shapes (definite_shape {w = w} c p t s v rest hl hn d h) e =
    absurd (definite_not_end c p t s v (rest ++ (end_marker ++ y)) x hl hn (sym (definite_more (identifier c p t) s v rest w (end_marker ++ y) d) ∙ sym e))
shapes_same x y no_shapes (indefinite_shape {w = w} c t v rest hv d h) e =
    absurd (open_not_end c true t (v ++ (end_marker ++ (rest ++ (end_marker ++ y)))) x (sym (open_more (identifier c true t) v rest w (end_marker ++ y) d) ∙ sym e))
shapes_same x y (definite_shape {w = w} c p t s v rest hl hn d h) no_shapes e =
    absurd (definite_not_end c p t s v (rest ++ (end_marker ++ x)) y hl hn (sym (definite_more (identifier c p t) s v rest w (end_marker ++ x) d) ∙ e))
shapes_same x y (indefinite_shape {w = w} c t v rest hv d h) no_shapes e =
    absurd (open_not_end c true t (v ++ (end_marker ++ (rest ++ (end_marker ++ x)))) y (sym (open_more (identifier c true t) v rest w (end_marker ++ x) d) ∙ e))
shapes_same x y (definite_shape {w = w} c p t s v rest hl hn d h) (definite_shape {w = w'} c' p' t' s' v' rest' hl' hn' d' h') e =
    let q = definite_same c c' p p' t t' s s' v v' (rest ++ (end_marker ++ x)) (rest' ++ (end_marker ++ y)) hl hl'
    (sym (definite_more (identifier c p t) s v rest w (end_marker ++ x) d) ∙ e ∙ definite_more (identifier c' p' t') s' v' rest' w' (end_marker ++ y) d') in
    let r = shapes_same x y h h' q.5 in
    (cc, r.1)
shapes_same x y (definite_shape {w = w} c p t s v rest hl hn d h) (indefinite_shape {w = w'} c' t' v' rest' hv' d' h') e =
    absurd (definite_not_open c c' p true t t' (length v) s (v ++ (rest ++ (end_marker ++ x))) (v' ++ (end_marker ++ (rest' ++ (end_marker ++ y)))) hl
    (sym (definite_more (identifier c p t) s v rest w (end_marker ++ x) d) ∙ e ∙ open_more (identifier c' true t') v' rest' w' (end_marker ++ y) d'))
shapes_same x y (indefinite_shape {w = w} c t v rest hv d h) (definite_shape {w = w'} c' p' t' s' v' rest' hl' hn' d' h') e =
    absurd (definite_not_open c' c p' true t' t (length v') s' (v' ++ (rest' ++ (end_marker ++ y))) (v ++ (end_marker ++ (rest ++ (end_marker ++ x)))) hl'
    (sym (definite_more (identifier c' p' t') s' v' rest' w' (end_marker ++ y) d') ∙ sym e ∙ open_more (identifier c true t) v rest w (end_marker ++ x) d))
shapes_same x y (indefinite_shape {w = w} c t v rest hv d h) (indefinite_shape {w = w'} c' t' v' rest' hv' d' h') e =
    let i = identifier_same c c' true true t t' (128 ∷ (v ++ (end_marker ++ (rest ++ (end_marker ++ x))))) (128 ∷ (v' ++ (end_marker ++ (rest' ++ (end_marker ++ y)))))
    (sym (open_more (identifier c true t) v rest w (end_marker ++ x) d) ∙ e ∙ open_more (identifier c' true t') v' rest' w' (end_marker ++ y) d') in
    let q = shapes_same (rest ++ (end_marker ++ x)) (rest' ++ (end_marker ++ y)) hv hv' (head_same i.3).1 in
    let r = shapes_same x y h h' q.1 in
    (cc, r.1)

-- two shapes at the front of one list are one
pub shape_same : (b b' x y : List ℕ) → IsShape b → IsShape b' → b ++ x ≡ b' ++ y → (b ≡ b') × (x ≡ y)
shape_same b b' x y (c, p, t, w, inl (s, hs, d)) (c', p', t', w', inl (s', hs', d')) e =
    let q = definite_same c c' p p' t t' s s' w w' x y hs hs' (sym (definite_part c p t s w b x d) ∙ e ∙ definite_part c' p' t' s' w' b' y d') in
    (cc, q.5)
shape_same b b' x y (c, p, t, w, inl (s, hs, d)) (c', p', t', w', inr (ep', hv', d')) e =
    absurd (definite_not_open c c' p p' t t' (length w) s (w ++ x) (w' ++ (end_marker ++ y)) hs (sym (definite_part c p t s w b x d) ∙ e ∙ open_part c' p' t' w' b' y d'))
shape_same b b' x y (c, p, t, w, inr (ep, hv, d)) (c', p', t', w', inl (s', hs', d')) e =
    absurd (definite_not_open c' c p' p t' t (length w') s' (w' ++ y) (w ++ (end_marker ++ x)) hs' (sym (definite_part c' p' t' s' w' b' y d') ∙ sym e ∙ open_part c p t w b x d))
shape_same b b' x y (c, p, t, w, inr (ep, hv, d)) (c', p', t', w', inr (ep', hv', d')) e =
    let i = identifier_same c c' p p' t t' (128 ∷ (w ++ (end_marker ++ x))) (128 ∷ (w' ++ (end_marker ++ y))) (sym (open_part c p t w b x d) ∙ e ∙ open_part c' p' t' w' b' y d') in
    let q = shapes_same x y hv hv' (head_same i.3).1 in
    (cc, q.1)

any_size : (s : List ℕ) (n : ℕ) → SpellsLength s n → SpellsAnyLength s n
any_size s n h = h.1

-- raw elements are shapes
pub raws_are_shapes : {w : List ℕ} {k : ℕ} → IsRawList w k → AreShapes w
raws_are_shapes empty = no_shapes
raws_are_shapes (definite c p t s v rest ht hk hl hn d r) = definite_shape c p t s v rest (any_size s (length v) hl) hn d (raws_are_shapes r)
raws_are_shapes (indefinite c t v rest ht hk hv d r) = indefinite_shape c t v rest (raws_are_shapes hv) d (raws_are_shapes r)

pub element_shape : (b : List ℕ) (k : ℕ) (c : Class) (p : Bool) (t : ℕ) (w : List ℕ) → IsElement b k c p t w → IsShape b
element_shape b k c p t w (ht, hk, inl (s, hs, d)) = (c, p, t, w, inl (s, any_size s (length w) hs, d))
element_shape b k c p t w (ht, hk, inr (ep, h2, hv, d)) = (c, p, t, w, inr (ep, raws_are_shapes hv, d))

tail_nil : (xs ys : List ℕ) → xs ++ ys ≡ [] → ys ≡ []
tail_nil [] ys e = e
tail_nil (x ∷ xs) ys e = absurd (omega (arith, ap length e))

-- an input that is cut short begins with no element
pub cut_is_none : (i : List ℕ) (k : ℕ) (c : Class) (p : Bool) (t : ℕ) (w rest : List ℕ) → IsCut i → BeginsWithElement i k c p t w rest → ⊥
cut_is_none i k c p t w rest (r, n, h) g =
    let a = begins_element i k c p t w rest g in
    let q = shape_same a.0 (i ++ r) (rest ++ r) [] (element_shape a.0 k c p t w a.2) h (sym (append_assoc a.0 rest r) ∙ ap (λ l. l ++ r) (sym a.1) ∙ sym (append-nil (i ++ r))) in
    n (tail_nil rest r q.1)

pub marker_shape : IsShape end_marker
marker_shape = (Universal, false, 0, [], inl (0 ∷ [], zero_length, sym (append-nil (identifier Universal false 0 ++ 0 ∷ []) ∙ marker_is [])))
