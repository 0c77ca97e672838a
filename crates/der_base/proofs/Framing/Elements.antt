-- One raw element at the front of a list, and the list behind it.
use Rattle.std.proofs.Common.{◌≡◌, ◌≢◌, ℕ, ◌-◌, ◌^◌, ◌<◌, ◌≤◌, Bool, true, List, [], ◌∷◌, ◌++◌, length, refl, sym, ap, subst, ◌∙◌, arith, append_assoc, ◌⊎◌, inl, inr, ⊎_elim}
use Rattle.std.proofs.lemmas.Bool.{cases_lt}
use Rattle.der_base.specs.declared.header.Class.{Class}
use Rattle.der_base.specs.Octets.{identifier, SpellsLength}
use Rattle.der_base.specs.Spelling.{IsRawList, empty, definite, indefinite, end_marker, BeginsWithElement}
use Rattle.der_base.proofs.Octets.Identifiers.{head_same, identifier_short, identifier_long, identifier_same}
use Rattle.der_base.proofs.Framing.RawLists.{definite_same, definite_not_open, raws_same, open_not_end}

-- an element with its header and content; the end marker counts as one
abbrev pub IsElement : List ℕ → ℕ → Class → Bool → ℕ → List ℕ → Type 0
IsElement b k c p t w = (t < 2 ^ 32) × (1 ≤ k)
    × (((s : List ℕ) × SpellsLength s (length w) × (b ≡ identifier c p t ++ s ++ w))
    ⊎ ((p ≡ true) × (2 ≤ k) × IsRawList w (k - 1) × (b ≡ identifier c p t ++ 128 ∷ w ++ end_marker)))

-- it is the one that a list begins with
pub element_begins : (b rest : List ℕ) (k : ℕ) (c : Class) (p : Bool) (t : ℕ) (w : List ℕ) → IsElement b k c p t w → BeginsWithElement (b ++ rest) k c p t w rest
element_begins b rest k c p t w (ht, hk, inl (s, hs, e)) = (ht, hk, inl (s, hs, ap (λ l. l ++ rest) e))
element_begins b rest k c p t w (ht, hk, inr (ep, h2, hv, e)) = (ht, hk, inr (ep, h2, hv, ap (λ l. l ++ rest) e))

pub begins_element : (i : List ℕ) (k : ℕ) (c : Class) (p : Bool) (t : ℕ) (w rest : List ℕ) → BeginsWithElement i k c p t w rest → (b : List ℕ) × (i ≡ b ++ rest) × IsElement b k c p t w
begins_element i k c p t w rest (ht, hk, inl (s, hs, e)) = (identifier c p t ++ s ++ w, e, (ht, hk, inl (s, hs, refl)))
begins_element i k c p t w rest (ht, hk, inr (ep, h2, hv, e)) = (identifier c p t ++ 128 ∷ w ++ end_marker, e, (ht, hk, inr (ep, h2, hv, refl)))

-- the parts of two elements at the front of one list
pub record SameElement (b b' : List ℕ) (c c' : Class) (p p' : Bool) (t t' : ℕ) (w w' x y : List ℕ) : Type 0 where
  pub class : c ≡ c'
  pub constructed : p ≡ p'
  pub number : t ≡ t'
  pub content : w ≡ w'
  pub octets : b ≡ b'
  pub rest : x ≡ y

pub definite_part : (c : Class) (p : Bool) (t : ℕ) (s w b x : List ℕ) → b ≡ identifier c p t ++ s ++ w → b ++ x ≡ identifier c p t ++ (s ++ (w ++ x))
definite_part c p t s w b x d = ap (λ l. l ++ x) d ∙ append_assoc (identifier c p t ++ s) w x ∙ append_assoc (identifier c p t) s (w ++ x)

pub open_part : (c : Class) (p : Bool) (t : ℕ) (w b x : List ℕ) → b ≡ identifier c p t ++ 128 ∷ w ++ end_marker → b ++ x ≡ identifier c p t ++ 128 ∷ (w ++ (end_marker ++ x))
open_part c p t w b x d = ap (λ l. l ++ x) d ∙ append_assoc (identifier c p t ++ 128 ∷ w) end_marker x ∙ append_assoc (identifier c p t) (128 ∷ w) (end_marker ++ x)

-- one element at the front of a list is all that there is
pub element_same : (b b' : List ℕ) (k k' : ℕ) (c c' : Class) (p p' : Bool) (t t' : ℕ) (w w' x y : List ℕ) → IsElement b k c p t w → IsElement b' k' c' p' t' w' → b ++ x ≡ b' ++ y
    → SameElement b b' c c' p p' t t' w w' x y
element_same b b' k k' c c' p p' t t' w w' x y (ht, hk, inl (s, hs, d)) (ht', hk', inl (s', hs', d')) e =
    let q = definite_same c c' p p' t t' s s' w w' x y hs hs' (sym (definite_part c p t s w b x d) ∙ e ∙ definite_part c' p' t' s' w' b' y d') in
    record { class = q.0; constructed = q.1; number = q.2; content = q.4; octets = cc; rest = q.5 }
element_same b b' k k' c c' p p' t t' w w' x y (ht, hk, inl (s, hs, d)) (ht', hk', inr (ep', h2', hv', d')) e =
    absurd (definite_not_open c c' p p' t t' (length w) s (w ++ x) (w' ++ (end_marker ++ y)) hs (sym (definite_part c p t s w b x d) ∙ e ∙ open_part c' p' t' w' b' y d'))
element_same b b' k k' c c' p p' t t' w w' x y (ht, hk, inr (ep, h2, hv, d)) (ht', hk', inl (s', hs', d')) e =
    absurd (definite_not_open c' c p' p t' t (length w') s' (w' ++ y) (w ++ (end_marker ++ x)) hs' (sym (definite_part c' p' t' s' w' b' y d') ∙ sym e ∙ open_part c p t w b x d))
element_same b b' k k' c c' p p' t t' w w' x y (ht, hk, inr (ep, h2, hv, d)) (ht', hk', inr (ep', h2', hv', d')) e =
    let i = identifier_same c c' p p' t t' (128 ∷ (w ++ (end_marker ++ x))) (128 ∷ (w' ++ (end_marker ++ y))) (sym (open_part c p t w b x d) ∙ e ∙ open_part c' p' t' w' b' y d') in
    let q = raws_same x y hv hv' (head_same i.3).1 in
    record { class = i.0; constructed = i.1; number = i.2; content = q.0; octets = cc; rest = q.1 }

pub identifier_some : (c : Class) (p : Bool) (t : ℕ) (x : List ℕ) → [] ≡ identifier c p t ++ x → ⊥
identifier_some c p t x e =
    ⊎_elim
    (λ a. omega (arith, ap length (e ∙ ap (λ l. l ++ x) (identifier_short c p t a))))
    (λ a. omega (arith, ap length (e ∙ ap (λ l. l ++ x) (identifier_long c p t a))))
    (cases_lt t 31)

moved : {b b' : List ℕ} {c c' : Class} {p p' : Bool} {t t' : ℕ} {w w' : List ℕ} (k : ℕ) → b ≡ b' → c ≡ c' → p ≡ p' → t ≡ t' → w ≡ w' → IsElement b k c p t w → IsElement b' k c' p' t' w'
moved {b = b} {b' = b'} {c = c} {c' = c'} {p = p} {p' = p'} {t = t} {t' = t'} {w = w} k eb ec ep et ew h =
    subst (λ l. IsElement b' k c' p' t' l) ew (subst (λ l. IsElement b' k c' p' l w) et (subst (λ l. IsElement b' k c' l t w) ep
    (subst (λ l. IsElement b' k l p t w) ec (subst (λ l. IsElement l k c p t w) eb h))))

-- an element has an octet
pub element_some : (b : List ℕ) (k : ℕ) (c : Class) (p : Bool) (t : ℕ) (w x : List ℕ) → IsElement b k c p t w → [] ≡ b ++ x → ⊥
element_some b k c p t w x (ht, hk, inl (s, hs, d)) e = identifier_some c p t (s ++ (w ++ x)) (e ∙ definite_part c p t s w b x d)
element_some b k c p t w x (ht, hk, inr (ep, h2, hv, d)) e = identifier_some c p t (128 ∷ (w ++ (end_marker ++ x))) (e ∙ open_part c p t w b x d)

-- an element in front of a list of them
pub raws_cons : (b rest : List ℕ) (k : ℕ) (c : Class) (p : Bool) (t : ℕ) (w : List ℕ) → IsElement b k c p t w → b ≢ end_marker → IsRawList rest k → IsRawList (b ++ rest) k
raws_cons b rest k c p t w (ht, hk, inl (s, hs, d)) n h = definite c p t s w rest ht hk hs (λ z. n (d ∙ z)) (ap (λ l. l ++ rest) d) h
raws_cons b rest k c p t w (ht, hk, inr (ep, h2, hv, d)) n h = indefinite c t w rest ht h2 hv (ap (λ l. l ++ rest) d ∙ ap (λ q. identifier c q t ++ 128 ∷ w ++ end_marker ++ rest) ep) h

open_is_marker : (c : Class) (p : Bool) (t : ℕ) (w : List ℕ) → identifier c p t ++ 128 ∷ w ++ end_marker ≡ end_marker → ⊥
open_is_marker c p t w e = open_not_end c p t (w ++ (end_marker ++ [])) [] (sym (open_part c p t w end_marker [] (sym e)))

-- a list that begins with an element goes on behind it, and the element keeps to the list's budget
pub raws_next : {i : List ℕ} {k : ℕ} (b rest : List ℕ) (m : ℕ) (c : Class) (p : Bool) (t : ℕ) (w : List ℕ) → IsRawList i k → IsElement b m c p t w → i ≡ b ++ rest
    → IsElement b k c p t w × (b ≢ end_marker) × IsRawList rest k
raws_next b rest m c p t w empty h e = absurd (element_some b m c p t w rest h e)
raws_next b rest m c p t w (definite {k = k} c' p' t' s' v' rest' ht' hk' hl' hn' d' r') h e =
    let g : IsElement (identifier c' p' t' ++ s' ++ v') k c' p' t' v' = (ht', hk', inl (s', hl', refl)) in
    let q = element_same _ b k m c' c p' p t' t v' w rest' rest g h (sym d' ∙ e) in
    (moved k q.octets q.class q.constructed q.number q.content g, (λ z. hn' (q.octets ∙ z)), subst (λ l. IsRawList l k) q.rest r')
raws_next b rest m c p t w (indefinite {k = k} c' t' v' rest' ht' hk' hv' d' r') h e =
    let g : IsElement (identifier c' true t' ++ 128 ∷ v' ++ end_marker) k c' true t' v' = (ht', omega (arith, hk'), inr (refl, hk', hv', refl)) in
    let q = element_same _ b k m c' c true p t' t v' w rest' rest g h (sym d' ∙ e) in
    (moved k q.octets q.class q.constructed q.number q.content g, (λ z. open_is_marker c' true t' v' (q.octets ∙ z)), subst (λ l. IsRawList l k) q.rest r')
