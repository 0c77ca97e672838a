-- An element in front of the input, a refusal of its header or of its framing, and its end within an element: one of them holds at most, and each in one way.
use Rattle.std.proofs.Common.{◌≡◌, ◌≢◌, ℕ, ◌-◌, ◌^◌, ◌<◌, ◌≤◌, Bool, true, false, List, [], ◌∷◌, ◌++◌, length, refl, sym, ap, subst, ◌∙◌, arith, append_assoc, length-append, ◌⊎◌, inl, inr}
use Rattle.der_base.specs.declared.header.Class.{Class}
use Rattle.der_base.specs.declared.header.Class.TheVariants.{Universal}
use Rattle.der_base.specs.declared.header.Length.{Length}
use Rattle.der_base.specs.declared.header.Length.TheVariants.{Definite, Indefinite}
use Rattle.der_base.specs.Any.{AnyRefuses}
use Rattle.der_base.specs.Cut.{IsCut}
use Rattle.der_base.specs.Fault.{BerHeaderRefuses, HasHeader, InsideRefuses, at_header, too_deep, further_in}
use Rattle.der_base.specs.Inner.Framed.{IsElement, definite, indefinite, AreElements, no_elements, elements}
use Rattle.der_base.specs.Headers.{BeginsWithHeader}
use Rattle.der_base.specs.Octets.{identifier}
use Rattle.der_base.specs.Refusal.{Refusal}
use Rattle.der_base.specs.Spelling.{IsRawList, end_marker, framing_budget, BeginsWithElement}
use Rattle.der_base.proofs.Headers.BerHeaders.{ber_header_not_refused, ber_header_refusal_same}
use Rattle.der_base.proofs.Framing.Framed.{at_marker, element_same}
use Rattle.der_base.proofs.Octets.Identifiers.{head_same, identifier_octets, identifier_same}
use Rattle.der_base.proofs.Framing.RawLists.{definite_not_open, marker_is, open_not_end, zero_length}
use Rattle.der_base.proofs.Framing.FramedIsSpelling.{raws_are, are_raws}
use Rattle.der_base.proofs.Framing.Shapes.{cut_is_none}
use Rattle.der_base.proofs.Framing.RawLists.{tail_more}

-- headers in front

-- the input begins with a header
abbrev pub HasSomeHeader : List ℕ → Type 0
HasSomeHeader i = (c : Class) × (p : Bool) × (t : ℕ) × (l : Length) × (rest : List ℕ) × BeginsWithHeader i c p t l rest

some_not_refused : (i : List ℕ) (e : Refusal) → HasSomeHeader i → BerHeaderRefuses i e → ⊥
some_not_refused i e (c, p, t, l, rest, b) r = ber_header_not_refused i rest c p t l e b r

-- an open one
pub open_header : (i v : List ℕ) (c : Class) (t : ℕ) → t < 2 ^ 32 → i ≡ identifier c true t ++ 128 ∷ v → BeginsWithHeader i c true t Indefinite v
open_header i v c t h e = record { following = 128 ∷ v; octets = e; number = h; length = (refl, refl) }

-- an element begins with its header
pub element_has_header : {b : List ℕ} {h : Length} {c : Class} {p : Bool} {t : ℕ} {w : List ℕ} {k : ℕ} (i x : List ℕ) → IsElement b h c p t w k → i ≡ b ++ x
    → (r : List ℕ) × BeginsWithHeader i c p t h r
element_has_header i x (definite {b = b} {h = h} {c = c} {p = p} {t = t} {w = w} s eh ht hk hs d) e =
    let o = e ∙ ap (λ l. l ++ x) d ∙ append_assoc (identifier c p t) (s ++ w) x ∙ ap (λ l. identifier c p t ++ l) (append_assoc s w x) in
    (w ++ x, rw eh (record { following = s ++ (w ++ x); octets = o; number = ht; length = (s, hs, refl) }))
element_has_header i x (indefinite {b = b} {h = h} {c = c} {p = p} {t = t} {w = w} eh ep ht hk hw d) e =
    let o = e ∙ ap (λ l. l ++ x) d ∙ append_assoc (identifier c p t) (128 ∷ w ++ end_marker) x in
    ((w ++ end_marker) ++ x, rw eh (record { following = 128 ∷ ((w ++ end_marker) ++ x); octets = o; number = ht; length = (ep, refl) }))

element_some_header : {b : List ℕ} {h : Length} {c : Class} {p : Bool} {t : ℕ} {w : List ℕ} {k : ℕ} (i x : List ℕ) → IsElement b h c p t w k → i ≡ b ++ x → HasSomeHeader i
element_some_header {h = h} {c = c} {p = p} {t = t} i x g e = let q = element_has_header i x g e in (c, p, t, h, q.0, q.1)

-- the element that the input begins with
pub begins_framed : (i : List ℕ) (k : ℕ) (c : Class) (p : Bool) (t : ℕ) (w rest : List ℕ) → BeginsWithElement i k c p t w rest → (b : List ℕ) × (h : Length) × IsElement b h c p t w k × (i ≡ b ++ rest)
begins_framed i k c p t w rest (ht, hk, inl (s, hs, e)) =
    (identifier c p t ++ (s ++ w), Definite (length w), definite s refl ht hk hs refl, e ∙ ap (λ l. l ++ rest) (append_assoc (identifier c p t) s w))
begins_framed i k c p t w rest (ht, hk, inr (ep, h2, hw, e)) =
    (identifier c p t ++ (128 ∷ w ++ end_marker), Indefinite, indefinite refl ep ht h2 (raws_are hw) refl, e ∙ ap (λ l. l ++ rest) (append_assoc (identifier c p t) (128 ∷ w) end_marker))

-- and back
pub framed_begins : {b : List ℕ} {h : Length} {c : Class} {p : Bool} {t : ℕ} {w : List ℕ} {k : ℕ} (rest : List ℕ) → IsElement b h c p t w k → BeginsWithElement (b ++ rest) k c p t w rest
framed_begins rest (definite {c = c} {p = p} {t = t} {w = w} s eh ht hk hs d) = (ht, hk, inl (s, hs, ap (λ l. l ++ rest) (d ∙ sym (append_assoc (identifier c p t) s w))))
framed_begins rest (indefinite {c = c} {p = p} {t = t} {w = w} eh ep ht hk hw d) =
    (ht, omega (arith, hk), inr (ep, hk, are_raws hw, ap (λ l. l ++ rest) (d ∙ sym (append_assoc (identifier c p t) (128 ∷ w) end_marker))))

-- an element has an octet
element_octets : {b : List ℕ} {h : Length} {c : Class} {p : Bool} {t : ℕ} {w : List ℕ} {k : ℕ} → IsElement b h c p t w k → 0 < length b
element_octets (definite {c = c} {p = p} {t = t} {w = w} s eh ht hk hs d) = omega (arith, ap length d, length-append (identifier c p t) (s ++ w), identifier_octets c p t)
element_octets (indefinite {c = c} {p = p} {t = t} {w = w} eh ep ht hk hw d) = omega (arith, ap length d, length-append (identifier c p t) (128 ∷ w ++ end_marker), identifier_octets c p t)

-- so what follows it is shorter
pub element_shorter : (i : List ℕ) (k : ℕ) (c : Class) (p : Bool) (t : ℕ) (w rest : List ℕ) → BeginsWithElement i k c p t w rest → length rest < length i
element_shorter i k c p t w rest g =
    let a = begins_framed i k c p t w rest g in
    omega (arith, ap length a.3, length-append a.0 rest, element_octets a.2)

-- the end marker is a header too
pub marker_has_header : (i x : List ℕ) → i ≡ end_marker ++ x → BeginsWithHeader i Universal false 0 (Definite 0) x
marker_has_header i x e = record { following = 0 ∷ x; octets = e ∙ sym (marker_is x); number = omega arith; length = (0 ∷ [], zero_length, refl) }

-- the header of the definition
has_some_header : (i : List ℕ) → HasHeader i → HasSomeHeader i
has_some_header i (p, s, (c, t, ht, o), inl (l, r, n, e, h)) = (c, p, t, Definite n, r, record { following = s; octets = o; number = ht; length = (l, h, e) })
has_some_header i (p, s, (c, t, ht, o), inr (ep, r, e)) = (c, p, t, Indefinite, r, record { following = s; octets = o; number = ht; length = (ep, e) })

-- elements in front

-- y begins with an element that is no end marker
abbrev pub Starts : List ℕ → ℕ → Type 0
Starts y k = (b x : List ℕ) × (h : Length) × (c : Class) × (p : Bool) × (t : ℕ) × (w : List ℕ) × IsElement b h c p t w k × (b ≢ end_marker) × (y ≡ b ++ x)

starts_header : (y : List ℕ) (k : ℕ) → Starts y k → HasSomeHeader y
starts_header y k (b, x, h, c, p, t, w, g, n, e) = element_some_header y x g e

marker_starts_not : (x : List ℕ) (k : ℕ) → Starts (end_marker ++ x) k → ⊥
marker_starts_not x k (b, y, h, c, p, t, w, g, n, e) = at_marker y x g (sym e) n

-- an open header that begins an element is followed by its content and end
abbrev Opens : List ℕ → ℕ → Type 0
Opens v k = (w x : List ℕ) × (2 ≤ k) × AreElements w (k - 1) × (v ≡ w ++ (end_marker ++ x))

element_opens : {b : List ℕ} {h : Length} {c' : Class} {p' : Bool} {t' : ℕ} {w : List ℕ} {k : ℕ} (x v : List ℕ) (c : Class) (t : ℕ) → IsElement b h c' p' t' w k
    → identifier c true t ++ 128 ∷ v ≡ b ++ x → Opens v k
element_opens x v c t (definite {b = b} {c = c'} {p = p'} {t = t'} {w = w} s eh ht hk hs d) e =
    let o = e ∙ ap (λ l. l ++ x) d ∙ append_assoc (identifier c' p' t') (s ++ w) x ∙ ap (λ l. identifier c' p' t' ++ l) (append_assoc s w x) in
    absurd (definite_not_open c' c p' true t' t (length w) s (w ++ x) v hs (sym o))
element_opens x v c t (indefinite {b = b} {c = c'} {p = p'} {t = t'} {w = w} eh ep ht hk hw d) e =
    let o = e ∙ ap (λ l. l ++ x) d ∙ append_assoc (identifier c' p' t') (128 ∷ w ++ end_marker) x in
    let q = identifier_same c c' true p' t t' (128 ∷ v) (128 ∷ ((w ++ end_marker) ++ x)) o in
    (w, x, hk, hw, (head_same q.3).1 ∙ append_assoc w end_marker x)

starts_opens : (v : List ℕ) (c : Class) (t k : ℕ) → Starts (identifier c true t ++ 128 ∷ v) k → Opens v k
starts_opens v c t k (b, x, h, c', p', t', w, g, n, e) = element_opens x v c t g e

-- two lists of elements at the front of one are the same, or what follows the shorter begins with an element
abbrev Compared : (u u' y y' : List ℕ) (k k' : ℕ) → Type 0
Compared u u' y y' k k' = ((u ≡ u') × (y ≡ y')) ⊎ Starts y' k ⊎ Starts y k'

also_first : {b b' r r' u u' y y' : List ℕ} {k k' : ℕ} → b ≡ b' → u ≡ b ++ r → u' ≡ b' ++ r' → Compared r r' y y' k k' → Compared u u' y y' k k'
also_first {b = b} {b' = b'} {r = r} {r' = r'} q d d' (inl (e, f)) = inl (d ∙ ap (λ l. l ++ r) q ∙ ap (λ l. b' ++ l) e ∙ sym d', f)
also_first q d d' (inr s) = inr s

compare : {u u' : List ℕ} {k k' : ℕ} (y y' : List ℕ) → AreElements u k → AreElements u' k' → u ++ y ≡ u' ++ y' → Compared u u' y y' k k'
compare y y' no_elements no_elements e = inl (refl, e)
compare y y' no_elements (elements {w = u'} {b = b} {rest = rest} {h = h} {c = c} {p = p} {t = t} {v = v} g n r d) e = inr (inr (b, rest ++ y', h, c, p, t, v, g, n, e ∙ tail_more b rest u' y' d))
compare y y' (elements {w = u} {b = b} {rest = rest} {h = h} {c = c} {p = p} {t = t} {v = v} g n r d) no_elements e = inr (inl (b, rest ++ y, h, c, p, t, v, g, n, sym e ∙ tail_more b rest u y d))
compare y y' (elements {w = u} {b = b} {rest = rest} g n r d) (elements {w = u'} {b = b'} {rest = rest'} g' n' r' d') e =
    let q = element_same (rest ++ y) (rest' ++ y') g g' (sym (tail_more b rest u y d) ∙ e ∙ tail_more b' rest' u' y' d') in
    also_first q.octets d d' (compare y y' r r' q.rest)

-- refusals of framing

-- where an element of indefinite length ends, its inside shows none
pub inside_not_refused : {v : List ℕ} {k : ℕ} {e : Refusal} (w x : List ℕ) → 2 ≤ k → AreElements w (k - 1) → v ≡ w ++ (end_marker ++ x) → InsideRefuses v k e → ⊥
inside_not_refused w x h a q (at_header {e = e} u rest hk d hu r) = elim (compare rest (end_marker ++ x) (raws_are hu) a (sym d ∙ q)) [
  | inl (f, z) ↦ (let m = marker_has_header rest x z in ber_header_not_refused rest x Universal false 0 (Definite 0) e m r)
  | inr (inl s) ↦ marker_starts_not x _ s
  | inr (inr s) ↦ some_not_refused rest e (starts_header rest _ s) r
]
inside_not_refused w x h a q (too_deep hk z) = omega (arith, h, hk)
inside_not_refused w x h a q (further_in u c t rest hk ht d hu r) =
    elim (compare (identifier c true t ++ 128 ∷ rest) (end_marker ++ x) (raws_are hu) a (sym (append_assoc u (identifier c true t) (128 ∷ rest)) ∙ sym d ∙ q)) [
      | inl (f, z) ↦ open_not_end c true t rest x z
      | inr (inl s) ↦ marker_starts_not x _ s
      | inr (inr s) ↦ (let o = starts_opens rest c t _ s in inside_not_refused o.0 o.1 o.2 o.3 o.4 r)
    ]

-- behind elements, a refused header is met once
header_met : (u u' r r' : List ℕ) (k k' : ℕ) (e : Refusal) → AreElements u k → AreElements u' k' → u ++ r ≡ u' ++ r' → BerHeaderRefuses r e → (Starts r' k → ⊥) → (u ≡ u') × (r ≡ r')
header_met u u' r r' k k' e a a' q h f = elim (compare r r' a a' q) [
  | inl z ↦ z
  | inr (inl s) ↦ absurd (f s)
  | inr (inr s) ↦ absurd (some_not_refused r e (starts_header r k' s) h)
]

-- what stands at the front of a refused inside begins with no element
refused_starts_not : (r : List ℕ) (k : ℕ) (e : Refusal) → BerHeaderRefuses r e → Starts r k → ⊥
refused_starts_not r k e h s = some_not_refused r e (starts_header r k s) h

open_starts_not : (c : Class) (t k m : ℕ) (rest : List ℕ) (e : Refusal) → k ≡ m → InsideRefuses rest k e → Starts (identifier c true t ++ 128 ∷ rest) m → ⊥
open_starts_not c t k m rest e q h s = let o = starts_opens rest c t m s in inside_not_refused o.0 o.1 (omega (arith, q, o.2)) (rw q o.3) o.4 h

-- an open header is not refused
open_not_refused : (c : Class) (t : ℕ) (rest : List ℕ) (e : Refusal) → t < 2 ^ 32 → BerHeaderRefuses (identifier c true t ++ 128 ∷ rest) e → ⊥
open_not_refused c t rest e h r = let i = identifier c true t ++ 128 ∷ rest in ber_header_not_refused i rest c true t Indefinite e (open_header i rest c t h refl) r

-- at the least budget no element stands in front
none_at_zero : {u : List ℕ} {k : ℕ} → k ≡ 0 → AreElements u k → u ≡ []
none_at_zero z no_elements = refl
none_at_zero z (elements (definite s eh ht hk hs d) n r q) = absurd (omega (arith, z, hk))
none_at_zero z (elements (indefinite eh ep ht hk hw d) n r q) = absurd (omega (arith, z, hk))

further_part : (u rest : List ℕ) (c : Class) (t : ℕ) (v : List ℕ) → v ≡ u ++ identifier c true t ++ 128 ∷ rest → v ≡ u ++ (identifier c true t ++ 128 ∷ rest)
further_part u rest c t v d = d ∙ append_assoc u (identifier c true t) (128 ∷ rest)

header_or_deep : (u rest v : List ℕ) (k : ℕ) (e : Refusal) → k ≡ 1 → v ≡ u ++ rest → IsRawList u (k - 1) → BerHeaderRefuses rest e → HasHeader v → ⊥
header_or_deep u rest v k e z d hu r h =
    let n = none_at_zero (omega (arith, z)) (raws_are hu) in
    some_not_refused v e (has_some_header v h) (subst (λ l. BerHeaderRefuses l e) (sym (d ∙ ap (λ l. l ++ rest) n)) r)

header_or_further : (u rest u' rest' v : List ℕ) (c : Class) (t k : ℕ) (e e' : Refusal) → v ≡ u ++ rest → IsRawList u (k - 1) → BerHeaderRefuses rest e
    → t < 2 ^ 32 → v ≡ u' ++ identifier c true t ++ 128 ∷ rest' → IsRawList u' (k - 1) → InsideRefuses rest' (k - 1) e' → ⊥
header_or_further u rest u' rest' v c t k e e' d hu r ht d' hu' h =
    let q = header_met u u' rest (identifier c true t ++ 128 ∷ rest') (k - 1) (k - 1) e (raws_are hu) (raws_are hu') (sym d ∙ further_part u' rest' c t v d') r
    (open_starts_not c t (k - 1) (k - 1) rest' e' refl h) in
    open_not_refused c t rest' e ht (subst (λ l. BerHeaderRefuses l e) q.1 r)

pub inside_refusal_same : {v v' : List ℕ} {k k' : ℕ} {e e' : Refusal} → v ≡ v' → k ≡ k' → InsideRefuses v k e → InsideRefuses v' k' e' → e ≡ e'
inside_refusal_same ev ek (at_header {k = k} {e = e} u rest hk d hu r) (at_header {k = k'} {e = e'} u' rest' hk' d' hu' r') =
    let q = header_met u u' rest rest' (k - 1) (k' - 1) e (raws_are hu) (raws_are hu') (sym d ∙ ev ∙ d') r (refused_starts_not rest' (k - 1) e' r') in
    ber_header_refusal_same rest e e' r (subst (λ l. BerHeaderRefuses l e') (sym q.1) r')
inside_refusal_same ev ek (at_header {k = k} {e = e} u rest hk d hu r) (too_deep {v = v'} hk' z) = absurd (header_or_deep u rest v' k e (ek ∙ hk') (sym ev ∙ d) hu r z)
inside_refusal_same ev ek (too_deep {v = v} hk z) (at_header {k = k'} {e = e'} u' rest' hk' d' hu' r') = absurd (header_or_deep u' rest' v k' e' (sym ek ∙ hk) (ev ∙ d') hu' r' z)
inside_refusal_same ev ek (at_header {v = v} {k = k} {e = e} u rest hk d hu r) (further_in {k = k'} {e = e'} u' c' t' rest' hk' ht' d' hu' h') =
    absurd (header_or_further u rest u' rest' v c' t' k e e' d hu r ht' (ev ∙ d') (rw ek hu') (rw ek h'))
inside_refusal_same ev ek (further_in {k = k} {e = e} u c t rest hk ht d hu h) (at_header {v = v'} {k = k'} {e = e'} u' rest' hk' d' hu' r') =
    absurd (header_or_further u' rest' u rest v' c t k' e' e d' hu' r' ht (sym ev ∙ d) (rw (sym ek) hu) (rw (sym ek) h))
inside_refusal_same ev ek (too_deep hk z) (too_deep hk' z') = refl
inside_refusal_same ev ek (too_deep hk z) (further_in u' c' t' rest' hk' ht' d' hu' h') = absurd (omega (arith, ek, hk, hk'))
inside_refusal_same ev ek (further_in u c t rest hk ht d hu h) (too_deep hk' z) = absurd (omega (arith, ek, hk, hk'))
inside_refusal_same ev ek (further_in {v = v} {k = k} {e = e} u c t rest hk ht d hu h) (further_in {v = v'} {k = k'} {e = e'} u' c' t' rest' hk' ht' d' hu' h') =
    let a = identifier c true t ++ 128 ∷ rest in
    let a' = identifier c' true t' ++ 128 ∷ rest' in
    let q : a ≡ a' = elim (compare a a' (raws_are hu) (raws_are hu') (sym (further_part u rest c t v d) ∙ ev ∙ further_part u' rest' c' t' v' d')) [
      | inl z ↦ z.1
      | inr (inl s) ↦ absurd (open_starts_not c' t' (k' - 1) (k - 1) rest' e' (ap (λ n. n - 1) (sym ek)) h' s)
      | inr (inr s) ↦ absurd (open_starts_not c t (k - 1) (k' - 1) rest e (ap (λ n. n - 1) ek) h s)
    ] in
    inside_refusal_same (head_same (identifier_same c c' true true t t' (128 ∷ rest) (128 ∷ rest') q).3).1 (ap (λ n. n - 1) ek) h h'

-- the laws

-- an element in front is not refused
pub begins_not_refused : (i : List ℕ) (c : Class) (p : Bool) (t : ℕ) (w rest : List ℕ) (e : Refusal) → BeginsWithElement i framing_budget c p t w rest → AnyRefuses i e → ⊥
begins_not_refused i c p t w rest e g (inl r) = let a = begins_framed i framing_budget c p t w rest g in some_not_refused i e (element_some_header i rest a.2 a.3) r
begins_not_refused i c p t w rest e g (inr (c', t', v, ht, o, r)) =
    let a = begins_framed i framing_budget c p t w rest g in
    let q = element_opens rest v c' t' a.2 (sym o ∙ a.3) in
    inside_not_refused q.0 q.1 q.2 q.3 q.4 r

-- nor is it cut short
pub begins_not_cut : (i : List ℕ) (k : ℕ) (c : Class) (p : Bool) (t : ℕ) (w rest : List ℕ) → BeginsWithElement i k c p t w rest → IsCut i → ⊥
begins_not_cut i k c p t w rest g h = cut_is_none i k c p t w rest h g

-- a header or its framing is refused with one refusal
pub any_refusal_same : (i : List ℕ) (e e' : Refusal) → AnyRefuses i e → AnyRefuses i e' → e ≡ e'
any_refusal_same i e e' (inl r) (inl r') = ber_header_refusal_same i e e' r r'
any_refusal_same i e e' (inl r) (inr (c', t', v', ht', o', r')) = absurd (ber_header_not_refused i v' c' true t' Indefinite e (open_header i v' c' t' ht' o') r)
any_refusal_same i e e' (inr (c, t, v, ht, o, r)) (inl r') = absurd (ber_header_not_refused i v c true t Indefinite e' (open_header i v c t ht o) r')
any_refusal_same i e e' (inr (c, t, v, ht, o, r)) (inr (c', t', v', ht', o', r')) =
    inside_refusal_same (head_same (identifier_same c c' true true t t' (128 ∷ v) (128 ∷ v') (sym o ∙ o')).3).1 refl r r'
