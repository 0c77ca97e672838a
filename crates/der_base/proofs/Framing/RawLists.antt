-- Raw elements: one at the front of a list, and lists of them, cut in one way only.
use Rattle.std.proofs.Common.{◌≡◌, ◌≢◌, ℕ, ◌-◌, ◌≤◌, Bool, true, false, List, [], ◌∷◌, ◌++◌, length, refl, sym, ap, ◌∙◌, arith, append_assoc, inl, append-nil}
use Rattle.der_base.specs.declared.header.Class.{Class}
use Rattle.der_base.specs.declared.header.Class.TheVariants.{Universal}
use Rattle.der_base.specs.Octets.{identifier, SpellsLength}
use Rattle.der_base.specs.Spelling.{IsRawList, empty, definite, indefinite, end_marker}
use Rattle.der_base.proofs.Octets.Identifiers.{head_same, fronts_same, identifier_short, identifier_same, length_same, length_not_open}

-- a definite element ends where it ends
pub definite_same : (c c' : Class) (p p' : Bool) (t t' : ℕ) (s s' v v' x y : List ℕ) → SpellsLength s (length v) → SpellsLength s' (length v')
    → identifier c p t ++ (s ++ (v ++ x)) ≡ identifier c' p' t' ++ (s' ++ (v' ++ y))
    → (c ≡ c') × (p ≡ p') × (t ≡ t') × (s ≡ s') × (v ≡ v') × (x ≡ y)
definite_same c c' p p' t t' s s' v v' x y h h' e =
    let i = identifier_same c c' p p' t t' (s ++ (v ++ x)) (s' ++ (v' ++ y)) e in
    let l = length_same s s' (length v) (length v') (v ++ x) (v' ++ y) h h' i.3 in
    let w = fronts_same v v' x y l.1 l.2 in
    (i.0, i.1, i.2, l.0, w.0, w.1)

-- no element begins in both ways
pub definite_not_open : (c c' : Class) (p p' : Bool) (t t' n : ℕ) (s x y : List ℕ) → SpellsLength s n → identifier c p t ++ (s ++ x) ≡ identifier c' p' t' ++ 128 ∷ y → ⊥
definite_not_open c c' p p' t t' n s x y h e =
    let i = identifier_same c c' p p' t t' (s ++ x) (128 ∷ y) e in
    length_not_open s n x y h i.3

pub zero_length : SpellsLength (0 ∷ []) 0
zero_length = (omega arith, inl (omega arith, refl, refl))

-- the end marker is the definite element of number 0 with no content
pub marker_is : (x : List ℕ) → identifier Universal false 0 ++ 0 ∷ x ≡ end_marker ++ x
marker_is x = ap (λ l. l ++ 0 ∷ x) (identifier_short Universal false 0 (omega arith))

pub definite_not_end : (c : Class) (p : Bool) (t : ℕ) (s v x y : List ℕ) → SpellsLength s (length v) → identifier c p t ++ s ++ v ≢ end_marker → identifier c p t ++ (s ++ (v ++ x)) ≡ end_marker ++ y
    → ⊥
definite_not_end c p t s v x y h n e =
    let q = definite_same c Universal p false t 0 s (0 ∷ []) v [] x y h zero_length (e ∙ sym (marker_is y)) in
    let r : identifier c p t ++ s ++ v ≡ identifier Universal false 0 ++ (0 ∷ []) ++ [] = cc in
    n (r ∙ append-nil (identifier Universal false 0 ++ 0 ∷ []) ∙ marker_is [])

-- nor does the end marker begin as an indefinite one
pub open_not_end : (c : Class) (p : Bool) (t : ℕ) (x y : List ℕ) → identifier c p t ++ 128 ∷ x ≡ end_marker ++ y → ⊥
open_not_end c p t x y e = definite_not_open Universal c false p 0 t 0 (0 ∷ []) y x zero_length (marker_is y ∙ sym e)

-- what follows the list follows its last element
pub definite_more : (i s v rest w x : List ℕ) → w ≡ i ++ s ++ v ++ rest → w ++ x ≡ i ++ (s ++ (v ++ (rest ++ x)))
definite_more i s v rest w x e =
    ap (λ l. l ++ x) e ∙ append_assoc (i ++ s ++ v) rest x ∙ append_assoc (i ++ s) v (rest ++ x) ∙ append_assoc i s (v ++ (rest ++ x))

pub open_more : (i v rest w x : List ℕ) → w ≡ i ++ 128 ∷ v ++ end_marker ++ rest → w ++ x ≡ i ++ 128 ∷ (v ++ (end_marker ++ (rest ++ x)))
open_more i v rest w x e = definite_more i (128 ∷ v) end_marker rest w x e

pub tail_more : (b rest w x : List ℕ) → w ≡ b ++ rest → w ++ x ≡ b ++ (rest ++ x)
tail_more b rest w x e = ap (λ l. l ++ x) e ∙ append_assoc b rest x

-- the end marker behind a list of elements is found at one place
pub raws_same : {u u' : List ℕ} {k k' : ℕ} (x y : List ℕ) → IsRawList u k → IsRawList u' k' → u ++ (end_marker ++ x) ≡ u' ++ (end_marker ++ y) → (u ≡ u') × (x ≡ y)
raws_same x y empty empty e = (refl, (head_same (head_same e).1).1)
raws_same x y empty (definite {w = w} c p t s v rest ht hk hl hn d h) e =
    absurd (definite_not_end c p t s v (rest ++ (end_marker ++ y)) x hl hn (sym (definite_more (identifier c p t) s v rest w (end_marker ++ y) d) ∙ sym e))
raws_same x y empty (indefinite {w = w} c t v rest ht hk hv d h) e =
    absurd (open_not_end c true t (v ++ (end_marker ++ (rest ++ (end_marker ++ y)))) x (sym (open_more (identifier c true t) v rest w (end_marker ++ y) d) ∙ sym e))
raws_same x y (definite {w = w} c p t s v rest ht hk hl hn d h) empty e =
    absurd (definite_not_end c p t s v (rest ++ (end_marker ++ x)) y hl hn (sym (definite_more (identifier c p t) s v rest w (end_marker ++ x) d) ∙ e))
raws_same x y (indefinite {w = w} c t v rest ht hk hv d h) empty e =
    absurd (open_not_end c true t (v ++ (end_marker ++ (rest ++ (end_marker ++ x)))) y (sym (open_more (identifier c true t) v rest w (end_marker ++ x) d) ∙ e))
raws_same x y (definite {w = w} c p t s v rest ht hk hl hn d h) (definite {w = w'} c' p' t' s' v' rest' ht' hk' hl' hn' d' h') e =
    let q = definite_same c c' p p' t t' s s' v v' (rest ++ (end_marker ++ x)) (rest' ++ (end_marker ++ y)) hl hl'
    (sym (definite_more (identifier c p t) s v rest w (end_marker ++ x) d) ∙ e ∙ definite_more (identifier c' p' t') s' v' rest' w' (end_marker ++ y) d') in
    let r = raws_same x y h h' q.5 in
    (cc, r.1)
raws_same x y (definite {w = w} c p t s v rest ht hk hl hn d h) (indefinite {w = w'} c' t' v' rest' ht' hk' hv' d' h') e =
    absurd (definite_not_open c c' p true t t' (length v) s (v ++ (rest ++ (end_marker ++ x))) (v' ++ (end_marker ++ (rest' ++ (end_marker ++ y)))) hl
    (sym (definite_more (identifier c p t) s v rest w (end_marker ++ x) d) ∙ e ∙ open_more (identifier c' true t') v' rest' w' (end_marker ++ y) d'))
raws_same x y (indefinite {w = w} c t v rest ht hk hv d h) (definite {w = w'} c' p' t' s' v' rest' ht' hk' hl' hn' d' h') e =
    absurd (definite_not_open c' c p' true t' t (length v') s' (v' ++ (rest' ++ (end_marker ++ y))) (v ++ (end_marker ++ (rest ++ (end_marker ++ x)))) hl'
    (sym (definite_more (identifier c' p' t') s' v' rest' w' (end_marker ++ y) d') ∙ sym e ∙ open_more (identifier c true t) v rest w (end_marker ++ x) d))
raws_same x y (indefinite {w = w} c t v rest ht hk hv d h) (indefinite {w = w'} c' t' v' rest' ht' hk' hv' d' h') e =
    let i = identifier_same c c' true true t t' (128 ∷ (v ++ (end_marker ++ (rest ++ (end_marker ++ x))))) (128 ∷ (v' ++ (end_marker ++ (rest' ++ (end_marker ++ y)))))
    (sym (open_more (identifier c true t) v rest w (end_marker ++ x) d) ∙ e ∙ open_more (identifier c' true t') v' rest' w' (end_marker ++ y) d') in
    let q = raws_same (rest ++ (end_marker ++ x)) (rest' ++ (end_marker ++ y)) hv hv' (head_same i.3).1 in
    let r = raws_same x y h h' q.1 in
    (cc, r.1)

-- a larger budget
pub raws_more : {w : List ℕ} {k : ℕ} (k' : ℕ) → k ≤ k' → IsRawList w k → IsRawList w k'
raws_more k' m empty = empty
raws_more k' m (definite c p t s v rest ht hk hl hn d h) = definite c p t s v rest ht (omega (arith, m, hk)) hl hn d (raws_more k' m h)
raws_more k' m (indefinite {k = k} c t v rest ht hk hv d h) =
    indefinite c t v rest ht (omega (arith, m, hk)) (raws_more (k' - 1) (omega (arith, m, hk)) hv) d (raws_more k' m h)
