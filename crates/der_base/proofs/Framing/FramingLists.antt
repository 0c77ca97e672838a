-- Elements that were read in front of a list, and what the list behind them shows.
use Rattle.std.proofs.Common.{◌≡◌, ℕ, ◌+◌, ◌-◌, ◌<◌, ◌≤◌, Bool, true, List, [], ◌∷◌, ◌++◌, length, refl, sym, ap, subst, ◌∙◌, arith, append_assoc, length-append, ◌⊎◌, inl, inr, ⊎_elim, append-nil}
use Rattle.der_base.specs.declared.header.Class.{Class}
use Rattle.der_base.specs.declared.header.Length.{Length}
use Rattle.der_base.specs.declared.header.Length.TheVariants.{Definite, Indefinite}
use Rattle.der_base.specs.Content.{BeginsWithContent}
use Rattle.der_base.specs.Fault.{BerHeaderRefuses, HasHeader, InsideRefuses, at_header, too_deep, further_in}
use Rattle.der_base.specs.Inner.Framed.{IsElement, definite, indefinite, AreElements, no_elements, elements}
use Rattle.der_base.specs.Headers.{BeginsWithHeader}
use Rattle.der_base.specs.LengthOctets.{BeginsWithLength}
use Rattle.der_base.specs.Octets.{identifier, SpellsLength}
use Rattle.der_base.specs.Refusal.{Refusal}
use Rattle.der_base.specs.Spelling.{end_marker}
use Rattle.der_base.proofs.Headers.BerHeaders.{ber_header_same, ber_header_not_refused}
use Rattle.der_base.proofs.Framing.Framed.{element_same, elements_append, elements_more}
use Rattle.der_base.proofs.Framing.FramingLaws.{HasSomeHeader, element_has_header, marker_has_header, inside_not_refused}
use Rattle.der_base.proofs.Octets.Identifiers.{identifier_octets, identifier_same, head_same}
use Rattle.der_base.proofs.Framing.RawLists.{definite_not_open}
use Rattle.der_base.proofs.Framing.FramedIsSpelling.{raws_are, are_raws}
use Rattle.der_base.proofs.Framing.RawLists.{tail_more}

-- headers

pub definite_header : (i behind : List ℕ) (c : Class) (p : Bool) (t n : ℕ) → BeginsWithHeader i c p t (Definite n) behind → (s : List ℕ) × SpellsLength s n × (i ≡ identifier c p t ++ (s ++ behind))
definite_header i behind c p t n h = let s = h.length in (s.0, s.1, h.octets ∙ ap (λ l. identifier c p t ++ l) s.2)

pub indefinite_header : (i behind : List ℕ) (c : Class) (p : Bool) (t : ℕ) → BeginsWithHeader i c p t Indefinite behind → i ≡ identifier c true t ++ 128 ∷ behind
indefinite_header i behind c p t h = h.octets ∙ ap (λ l. identifier c p t ++ l) h.length.1 ∙ ap (λ q. identifier c q t ++ 128 ∷ behind) h.length.0

pub has_header : (i behind : List ℕ) (c : Class) (p : Bool) (t : ℕ) (l : Length) → BeginsWithHeader i c p t l behind → HasHeader i
has_header i behind c p t (Definite n) h = let s = h.length in (p, h.following, (c, t, h.number, h.octets), inl (s.0, behind, n, s.2, s.1))
has_header i behind c p t Indefinite h = (p, h.following, (c, t, h.number, h.octets), inr (h.length.0, behind, h.length.1))

pub some_header : {i : List ℕ} → HasHeader i → HasSomeHeader i
some_header (p, s, (c, t, ht, e), inl (l, r, n, d, hl)) = (c, p, t, Definite n, r, record { following = s; octets = e; number = ht; length = (l, hl, d) })
some_header (p, s, (c, t, ht, e), inr (ep, r, d)) = (c, p, t, Indefinite, r, record { following = s; octets = e; number = ht; length = (ep, d) })

-- a header takes two octets at least, one of the identifier and one of the length
pub header_takes_two : (i behind : List ℕ) (c : Class) (p : Bool) (t : ℕ) (l : Length) → BeginsWithHeader i c p t l behind → length behind + 2 ≤ length i
header_takes_two i behind c p t l h = omega (arith, identifier_octets c p t, behind_length l h.length, ap length h.octets, length-append (identifier c p t) h.following)
  where
    some_length : (s : List ℕ) (n : ℕ) → SpellsLength s n → 1 ≤ length s
    some_length [] n g = absurd g.1
    some_length (b ∷ s) n g = omega arith

    behind_length : (l : Length) → BeginsWithLength h.following p l behind → length behind + 1 ≤ length h.following
    behind_length (Definite n) g = omega (arith, some_length g.0 n g.1, ap length g.2, length-append g.0 behind)
    behind_length Indefinite g = omega (arith, ap length g.1)

pub behind_marker : (i x behind : List ℕ) (c : Class) (p : Bool) (t : ℕ) (l : Length) → i ≡ end_marker ++ x → BeginsWithHeader i c p t l behind → behind ≡ x
behind_marker i x behind c p t l e h = (ber_header_same i behind x c _ p _ t _ l _ h (marker_has_header i x e)).rest

-- elements

-- a header and its content are one
pub element_from : (i behind w rest : List ℕ) (k : ℕ) (c : Class) (p : Bool) (t : ℕ) (l : Length) → 1 ≤ k → BeginsWithHeader i c p t l behind → BeginsWithContent behind l k w rest
    → (b : List ℕ) × IsElement b l c p t w k × (i ≡ b ++ rest)
element_from i behind w rest k c p t (Definite n) h1 h (z, d) =
    let g = definite_header i behind c p t n h in
    let a = identifier c p t in (
      a ++ (g.0 ++ w),
      definite g.0 (ap Definite (sym z)) h.number h1 (subst (λ m. SpellsLength g.0 m) (sym z) g.1) refl,
      g.2 ∙ ap (λ v. a ++ (g.0 ++ v)) d ∙ ap (λ v. a ++ v) (sym (append_assoc g.0 w rest)) ∙ sym (append_assoc a (g.0 ++ w) rest),
    )
element_from i behind w rest k c p t Indefinite h1 h (h2, hw, d) =
    let a = identifier c p t in (
      a ++ (128 ∷ w ++ end_marker),
      indefinite refl h.length.0 h.number h2 (raws_are hw) refl,
      h.octets ∙ ap (λ v. a ++ v) h.length.1 ∙ ap (λ v. a ++ 128 ∷ v) d ∙ sym (append_assoc a (128 ∷ w ++ end_marker) rest),
    )

-- one more of them behind those that were read
pub one_more_element : (i rest behind after w u : List ℕ) (k : ℕ) (c : Class) (p : Bool) (t : ℕ) (l : Length) → 1 ≤ k → AreElements u k → i ≡ u ++ rest → BeginsWithHeader rest c p t l behind
    → BeginsWithContent behind l k w after
    → ((x : List ℕ) → ¬ (rest ≡ end_marker ++ x)) → (u' : List ℕ) × AreElements u' k × (i ≡ u' ++ after)
one_more_element i rest behind after w u k c p t l h1 hu e h g n =
    let b = element_from rest behind w after k c p t l h1 h g in
    let one = elements b.1 (λ z. n after (b.2 ∙ ap (λ v. v ++ after) z)) no_elements (sym (append-nil b.0)) in
    (u ++ b.0, elements_append b.0 hu one, e ∙ ap (λ v. u ++ v) b.2 ∙ sym (append_assoc u b.0 after))

pub none_at_zero : {u : List ℕ} {k : ℕ} → AreElements u k → k ≡ 0 → u ≡ []
none_at_zero no_elements z = refl
none_at_zero (elements (definite s eh ht hk hs d) n r q) z = absurd (omega (arith, z, hk))
none_at_zero (elements (indefinite eh ep ht hk hw d) n r q) z = absurd (omega (arith, z, hk))

-- where an element stands in front, a list of them is empty or goes on behind it
behind_first : {u b : List ℕ} {k m : ℕ} {h : Length} {c : Class} {p : Bool} {t : ℕ} {w : List ℕ} (x y : List ℕ) → AreElements u k → IsElement b h c p t w m → u ++ y ≡ b ++ x
    → (u ≡ []) ⊎ ((u' : List ℕ) × AreElements u' k × (x ≡ u' ++ y))
behind_first x y no_elements g e = inl refl
behind_first x y (elements {w = u} {b = b'} {rest = rest} g' n r d) g e = inr (rest, r, sym (element_same (rest ++ y) x g' g (sym (tail_more b' rest u y d) ∙ e)).rest)

-- an element whose content begins behind this header ends with its end marker
inside_element : {b : List ℕ} {h : Length} {c : Class} {p : Bool} {t : ℕ} {w : List ℕ} {m : ℕ} (k : ℕ) (e : Refusal) (x r : List ℕ) (c' : Class) (t' : ℕ) → IsElement b h c p t w m → m < k
    → identifier c' true t' ++ 128 ∷ r ≡ b ++ x → InsideRefuses r (k - 1) e → ⊥
inside_element k e x r c' t' (definite {b = b} {c = c} {p = p} {t = t} {w = w} s eh ht hm hs d) lt z hi =
    definite_not_open c c' p true t t' (length w) s (w ++ x) r hs (sym (z ∙ tail_more (identifier c p t) (s ++ w) b x d ∙ ap (λ l. identifier c p t ++ l) (append_assoc s w x)))
inside_element k e x r c' t' (indefinite {b = b} {c = c} {p = p} {t = t} {w = w} eh ep ht hm hw d) lt z hi =
    let q = identifier_same c' c true p t' t (128 ∷ r) (128 ∷ ((w ++ end_marker) ++ x)) (z ∙ tail_more (identifier c p t) (128 ∷ w ++ end_marker) b x d) in
    inside_not_refused w x (omega (arith, lt, hm)) (elements_more (k - 1 - 1) (omega (arith, lt)) hw) ((head_same q.3).1 ∙ append_assoc w end_marker x) hi

-- a refusal behind one element
behind_one : {b : List ℕ} {h : Length} {c : Class} {p : Bool} {t : ℕ} {w : List ℕ} {m : ℕ} (v x : List ℕ) (k : ℕ) (e : Refusal) → IsElement b h c p t w m → 1 ≤ m → m < k → InsideRefuses v k e
    → v ≡ b ++ x → InsideRefuses x k e
behind_one v x k e g h1 lt (at_header u r hk d hu hr) z =
    ⊎_elim
    (λ o. let a = element_has_header v x g z in absurd (ber_header_not_refused v a.0 _ _ _ _ e a.1 (subst (λ i. BerHeaderRefuses i e) (ap (λ i. i ++ r) (sym o) ∙ sym d) hr)))
    (λ q. at_header q.0 r hk q.2 (are_raws q.1) hr)
    (behind_first x r (raws_are hu) g (sym d ∙ z))
behind_one v x k e g h1 lt (too_deep hk hh) z = absurd (omega (arith, h1, lt, hk))
behind_one {b = b} v x k e g h1 lt (further_in u c' t' r h ht d hu hi) z =
    let a = identifier c' true t' in
    let s : u ++ (a ++ 128 ∷ r) ≡ b ++ x = sym (append_assoc u a (128 ∷ r)) ∙ sym d ∙ z in
    ⊎_elim
    (λ o. absurd (inside_element k e x r c' t' g lt (ap (λ i. i ++ (a ++ 128 ∷ r)) (sym o) ∙ s) hi))
    (λ q. further_in q.0 c' t' r h ht (q.2 ∙ sym (append_assoc q.0 a (128 ∷ r))) (are_raws q.1) hi)
    (behind_first x (a ++ 128 ∷ r) (raws_are hu) g s)

some_budget : {b : List ℕ} {h : Length} {c : Class} {p : Bool} {t : ℕ} {w : List ℕ} {k : ℕ} → IsElement b h c p t w k → 1 ≤ k
some_budget (definite s eh ht hk hs d) = hk
some_budget (indefinite eh ep ht hk hw d) = omega (arith, hk)

-- a refusal of a list is one of what stands behind its elements
pub refuses_behind : {u : List ℕ} {j : ℕ} (rest v : List ℕ) (k : ℕ) (e : Refusal) → j < k → AreElements u j → InsideRefuses v k e → v ≡ u ++ rest → InsideRefuses rest k e
refuses_behind rest v k e lt no_elements h z = subst (λ i. InsideRefuses i k e) z h
refuses_behind rest v k e lt (elements {w = u} {b = b} {rest = more} g n r d) h z =
    let x = more ++ rest in
    refuses_behind rest x k e lt r (behind_one v x k e g (some_budget g) lt h (z ∙ tail_more b more u rest d)) refl
