-- Inputs that end in an element: they are proper fronts of one, lack one number of octets, and show no refusal.
use Rattle.std.proofs.Common.{◌≡◌, ◌≢◌, ℕ, zero, suc, ◌+◌, ◌-◌, ◌≤◌, Bool, true, List, [], ◌∷◌, ◌++◌, length, refl, sym}
use Rattle.std.proofs.Common.{ap, subst, ◌∙◌, arith, append_assoc, length-append, ◌⊎◌, inl, inr, ⊎_elim, append-nil}
use Rattle.der_base.specs.declared.header.Class.{Class}
use Rattle.der_base.specs.declared.header.Length.{Length}
use Rattle.der_base.specs.declared.header.Length.TheVariants.{Definite, Indefinite}
use Rattle.der_base.specs.Content.{ContentRefuses, ContentLacks, InsideLacks}
use Rattle.der_base.specs.Cut.{AreShapes, no_shapes, definite_shape, indefinite_shape, IsShape, IsCut, Lacks}
use Rattle.der_base.specs.Cut.{in_identifier as lacks_in_identifier, in_length as lacks_in_length, in_content}
use Rattle.der_base.specs.Cut.{in_elements}
use Rattle.der_base.specs.Fault.{BerHeaderRefuses, InsideRefuses, at_header, too_deep, further_in}
use Rattle.der_base.specs.Inner.Framed.{IsElement, definite, indefinite, AreElements, no_elements, elements}
use Rattle.der_base.specs.Headers.{BeginsWithHeader, HeaderLacks, in_identifier, in_length, BerHeaderLacks}
use Rattle.der_base.specs.Octets.{identifier, number, SpellsAnyLength}
use Rattle.der_base.specs.Refusal.{Refusal}
use Rattle.der_base.specs.Spelling.{end_marker}
use Rattle.der_base.proofs.Headers.BerHeaders.{ber_header_same, ber_header_not_refused, ber_header_not_lacking}
use Rattle.der_base.proofs.Framing.Cuts.{lacks_stuck}
use Rattle.der_base.proofs.Framing.FramingLaws.{HasSomeHeader, open_header}
use Rattle.der_base.proofs.Framing.FramingLists.{some_header, indefinite_header, definite_header, refuses_behind}
use Rattle.der_base.proofs.Octets.Identifiers.{head_same}
use Rattle.der_base.proofs.Framing.FramedIsSpelling.{raws_are, are_raws}
use Rattle.der_base.proofs.Framing.Shapes.{raws_are_shapes}
use Rattle.der_base.proofs.Octets.LengthOctets.{zeros}
use Rattle.der_base.proofs.Framing.RawLists.{tail_more}

some_last : (r : List ℕ) (b : ℕ) (x : List ℕ) → r ++ b ∷ x ≢ []
some_last [] b x e = cc
some_last (a ∷ r) b x e = cc

some_first : (r x : List ℕ) → r ≢ [] → r ++ x ≢ []
some_first [] x n e = n refl
some_first (a ∷ r) x n e = cc

announced : (i a s z v : List ℕ) → i ≡ a ++ s → i ++ (z ++ v) ≡ a ++ (s ++ z) ++ v
announced i a s z v e = ap (λ x. x ++ (z ++ v)) e ∙ sym (append_assoc (a ++ s) z v) ∙ ap (λ x. x ++ v) (append_assoc a s z)

-- an input that ends within a header
pub header_cut : {i : List ℕ} {n : ℕ} → HeaderLacks i n → IsCut i × Lacks i n
header_cut (in_identifier {i = i} c p t r e) =
    let o = sym (append_assoc i r (0 ∷ [])) ∙ ap (λ x. x ++ 0 ∷ []) e ∙ sym (append-nil (identifier c p t ++ 0 ∷ [])) in
    let cut : IsCut i = (r ++ 0 ∷ [], some_last r 0 [], (c, p, t, [], inl (0 ∷ [], inl (omega arith, refl, refl), o))) in
    (cut, lacks_in_identifier c p t r e)
header_cut (in_length {i = i} {n = n} c p t b bs h h1 hb e) =
    let z = zeros n in
    let w = bs ++ z.0 in
    let l = length-append bs z.0 in
    let v = zeros (number w) in
    let s : SpellsAnyLength (b ∷ w) (length v.0) = inr (h, omega (arith, hb, z.1, l), omega (arith, h1, z.1, l), v.1) in
    let some : z.0 ++ v.0 ≢ [] = λ y. omega (arith, h1, z.1, ap length y, length-append z.0 v.0) in
    let cut : IsCut i = (z.0 ++ v.0, some, (c, p, t, v.0, inl (b ∷ w, s, announced i (identifier c p t) (b ∷ bs) z.0 v.0 e))) in
    (cut, lacks_in_length c p t b bs h h1 hb e)

-- within a definite content
pub content_cut : (i behind : List ℕ) (c : Class) (p : Bool) (t m n : ℕ) → BeginsWithHeader i c p t (Definite m) behind → 1 ≤ n → length behind + n ≡ m → IsCut i × Lacks i n
content_cut i behind c p t m n h h1 e =
    let g = definite_header i behind c p t m h in
    let a = identifier c p t in
    let z = zeros n in
    let whole : m ≡ length (behind ++ z.0) = omega (arith, e, z.1, length-append behind z.0) in
    let o : i ++ z.0 ≡ a ++ g.0 ++ (behind ++ z.0) = ap (λ x. x ++ z.0) (g.2 ∙ sym (append_assoc a g.0 behind)) ∙ append_assoc (a ++ g.0) behind z.0 in
    let some : z.0 ≢ [] = λ y. omega (arith, h1, z.1, ap length y) in (
      (z.0, some, (c, p, t, behind ++ z.0, inl (g.0, subst (λ k. SpellsAnyLength g.0 k) whole g.1.1, o))),
      in_content c p t g.0 behind h1 (subst (λ k. SpellsAnyLength g.0 k) (sym e) g.1.1) (g.2 ∙ sym (append_assoc a g.0 behind)),
    )

-- within the elements of an indefinite length

marker_or_not : (b : List ℕ) → (b ≡ end_marker) ⊎ (b ≢ end_marker)
marker_or_not (zero ∷ zero ∷ []) = inl refl
marker_or_not [] = inr (λ e. cc)
marker_or_not (a ∷ []) = inr (λ e. cc)
marker_or_not (suc a ∷ b ∷ r) = inr (λ e. omega (arith, (head_same e).0))
marker_or_not (zero ∷ suc b ∷ r) = inr (λ e. omega (arith, (head_same (head_same e).1).0))
marker_or_not (zero ∷ zero ∷ a ∷ r) = inr (λ e. cc)

last_shape : {b : List ℕ} → IsShape b → b ≢ end_marker → AreShapes b
last_shape {b = b} (c, p, t, v, inl (s, hs, e)) n = definite_shape c p t s v [] hs (λ z. n (e ∙ z)) (e ∙ sym (append-nil (identifier c p t ++ s ++ v))) no_shapes
last_shape {b = b} (c, p, t, v, inr (ep, hv, e)) n =
    indefinite_shape c t v [] hv (e ∙ ap (λ q. identifier c q t ++ 128 ∷ v ++ end_marker) ep ∙ sym (append-nil (identifier c true t ++ 128 ∷ v ++ end_marker))) no_shapes

shapes_append : {u : List ℕ} (x : List ℕ) → AreShapes u → AreShapes x → AreShapes (u ++ x)
shapes_append x no_shapes h = h
shapes_append x (definite_shape {w = u} c p t s v rest hs hn d r) h = definite_shape c p t s v (rest ++ x) hs hn (tail_more (identifier c p t ++ s ++ v) rest u x d) (shapes_append x r h)
shapes_append x (indefinite_shape {w = u} c t v rest hv d r) h = indefinite_shape c t v (rest ++ x) hv (tail_more (identifier c true t ++ 128 ∷ v ++ end_marker) rest u x d) (shapes_append x r h)

-- the end marker completes the elements, unless it is what is cut
open_is_cut : (i u r : List ℕ) (c : Class) (t : ℕ) → i ≡ identifier c true t ++ 128 ∷ (u ++ r) → AreShapes u → IsCut r → IsCut i
open_is_cut i u r c t e hu (x, some, g) =
    let a = identifier c true t in
    let joined : (y : List ℕ) → i ++ y ≡ a ++ 128 ∷ u ++ (r ++ y) = λ y. ap (λ l. l ++ y) (e ∙ sym (append_assoc a (128 ∷ u) r)) ∙ append_assoc (a ++ 128 ∷ u) r y in
    ⊎_elim
    (λ z. (x, some, (c, true, t, u, inr (refl, hu, joined x ∙ ap (λ l. a ++ 128 ∷ u ++ l) z))))
    (λ n.
    let hv = shapes_append (r ++ x) hu (last_shape g n) in
    let o = joined (x ++ end_marker) ∙ ap (λ l. a ++ 128 ∷ u ++ l) (sym (append_assoc r x end_marker)) ∙ sym (append_assoc (a ++ 128 ∷ u) (r ++ x) end_marker)
    ∙ ap (λ l. l ++ end_marker) (append_assoc a (128 ∷ u) (r ++ x)) in
    (x ++ end_marker, some_first x end_marker some, (c, true, t, u ++ (r ++ x), inr (refl, hv, o))))
    (marker_or_not (r ++ x))

pub open_cut : (i v : List ℕ) (c : Class) (t k n : ℕ) → i ≡ identifier c true t ++ 128 ∷ v → InsideLacks v k n → IsCut i × Lacks i n
open_cut i v c t k n e h =
    let d = e ∙ ap (λ l. identifier c true t ++ 128 ∷ l) h.octets in
    (open_is_cut i h.whole h.cut c t d h.elements h.ends, in_elements c t h.whole h.cut h.elements h.lacks (d ∙ sym (append_assoc (identifier c true t) (128 ∷ h.whole) h.cut)))

-- no element stands in front of what is cut short
framed_shape : {b : List ℕ} {h : Length} {c : Class} {p : Bool} {t : ℕ} {w : List ℕ} {k : ℕ} → IsElement b h c p t w k → IsShape b
framed_shape (definite {c = c} {p = p} {t = t} {w = w} s eh ht hk hs d) = (c, p, t, w, inl (s, hs.1, d ∙ sym (append_assoc (identifier c p t) s w)))
framed_shape (indefinite {c = c} {p = p} {t = t} {w = w} eh ep ht hk hw d) = (c, p, t, w, inr (ep, raws_are_shapes (are_raws hw), d ∙ sym (append_assoc (identifier c p t) (128 ∷ w) end_marker)))

none_in_front : {u v : List ℕ} {k n : ℕ} (r : List ℕ) → Lacks v n → AreElements u k → v ≡ u ++ r → u ≡ []
none_in_front r h no_elements e = refl
none_in_front r h (elements {w = u} {b = b} {rest = rest} g n q d) e = absurd (lacks_stuck h b (rest ++ r) (framed_shape g) (e ∙ tail_more b rest u r d))

-- so a refusal of it shows in its first header, or further in behind that
ShowsFirst : List ℕ → ℕ → Refusal → Type 0
ShowsFirst v k e = BerHeaderRefuses v e ⊎ ((k ≡ 1) × HasSomeHeader v)
    ⊎ ((c : Class) × (t : ℕ) × (r : List ℕ) × BeginsWithHeader v c true t Indefinite r × InsideRefuses r (k - 1) e)

shows_first : {v : List ℕ} {k n : ℕ} {e : Refusal} → Lacks v n → InsideRefuses v k e → ShowsFirst v k e
unfolding ShowsFirst
shows_first {e = e} h (at_header u r h1 d hu hr) = inl (subst (λ i. BerHeaderRefuses i e) (sym (d ∙ ap (λ l. l ++ r) (none_in_front r h (raws_are hu) d))) hr)
shows_first h (too_deep hk hh) = inr (inl (hk, some_header hh))
shows_first {v = v} h (further_in u c t r h2 ht d hu hi) =
    let a = identifier c true t in
    let z = d ∙ append_assoc u a (128 ∷ r) in
    let o = z ∙ ap (λ l. l ++ (a ++ 128 ∷ r)) (none_in_front (a ++ 128 ∷ r) h (raws_are hu) z) in
    inr (inr (c, t, r, open_header v r c t ht o, hi))

-- where the octets behind the elements that were read are cut short
behind_elements : (v u rest : List ℕ) (k n : ℕ) → 1 ≤ k → AreElements u (k - 1) → v ≡ u ++ rest → IsCut rest → Lacks rest n → ((e : Refusal) → ShowsFirst rest k e → ⊥) → InsideLacks v k n
behind_elements v u rest k n h1 hu d cut lacks never = record {
  whole = u;
  cut = rest;
  octets = d;
  elements = raws_are_shapes (are_raws hu);
  ends = cut;
  lacks = lacks;
  not_refused = λ e h. never e (shows_first lacks (refuses_behind rest v k e (omega (arith, h1)) hu h d));
}

pub lacks_header : (v u rest : List ℕ) (k n : ℕ) → 1 ≤ k → AreElements u (k - 1) → v ≡ u ++ rest → BerHeaderLacks rest n → InsideLacks v k n
unfolding ShowsFirst
lacks_header v u rest k n h1 hu d h =
    let q = header_cut h.1 in
    behind_elements v u rest k n h1 hu d q.0 q.1 (λ e s. refused e s)
  where
    refused : (e : Refusal) → ShowsFirst rest k e → ⊥
    refused e (inl r) = h.2 e r
    refused e (inr (inl (hk, (c, p, t, l, behind, g)))) = ber_header_not_lacking rest behind c p t l n g h.1
    refused e (inr (inr (c, t, r, g, hi))) = ber_header_not_lacking rest r c true t Indefinite n g h.1

pub lacks_content : (v u rest behind : List ℕ) (k n : ℕ) (c : Class) (p : Bool) (t : ℕ) (l : Length) → 2 ≤ k → AreElements u (k - 1) → v ≡ u ++ rest → BeginsWithHeader rest c p t l behind
    → ContentLacks behind l (k - 1) n → InsideLacks v k n
unfolding ShowsFirst
lacks_content v u rest behind k n c p t (Definite m) h2 hu d h (h1, z) =
    let q = content_cut rest behind c p t m n h h1 z in
    behind_elements v u rest k n (omega (arith, h2)) hu d q.0 q.1 (λ e s. refused e s)
  where
    refused : (e : Refusal) → ShowsFirst rest k e → ⊥
    refused e (inl r) = ber_header_not_refused rest behind c p t (Definite m) e h r
    refused e (inr (inl (hk, g))) = omega (arith, h2, hk)
    refused e (inr (inr (c', t', r, g, hi))) = let s = (ber_header_same rest behind r c c' p true t t' (Definite m) Indefinite h g).length in cc
lacks_content v u rest behind k n c p t Indefinite h2 hu d h inside =
    let q = open_cut rest behind c t (k - 1) n (indefinite_header rest behind c p t h) inside in
    behind_elements v u rest k n (omega (arith, h2)) hu d q.0 q.1 (λ e s. refused e s)
  where
    refused : (e : Refusal) → ShowsFirst rest k e → ⊥
    refused e (inl r) = ber_header_not_refused rest behind c p t Indefinite e h r
    refused e (inr (inl (hk, g))) = omega (arith, h2, hk)
    refused e (inr (inr (c', t', r, g, hi))) = inside.not_refused e (subst (λ i. InsideRefuses i (k - 1) e) (sym (ber_header_same rest behind r c c' p true t t' Indefinite Indefinite h g).rest) hi)

-- a refusal behind the elements that were read
pub refuses_content : (v u rest behind : List ℕ) (k : ℕ) (e : Refusal) (c : Class) (p : Bool) (t : ℕ) (l : Length) → 2 ≤ k → AreElements u (k - 1) → v ≡ u ++ rest
    → BeginsWithHeader rest c p t l behind → ContentRefuses behind l (k - 1) e → InsideRefuses v k e
refuses_content v u rest behind k e c p t (Definite m) h2 hu d h r = absurd r
refuses_content v u rest behind k e c p t Indefinite h2 hu d h r =
    further_in u c t behind h2 h.number (d ∙ ap (λ l. u ++ l) (indefinite_header rest behind c p t h) ∙ sym (append_assoc u (identifier c true t) (128 ∷ behind))) (are_raws hu) r
