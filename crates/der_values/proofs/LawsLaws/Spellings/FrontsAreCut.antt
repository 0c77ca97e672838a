-- Each proper front of a spelling is cut short: it lacks some number of octets, and shows no refusal.
use Rattle.std.proofs.Common.{◌≡◌, ◌≢◌, ℕ, ◌+◌, ◌≤◌, ◌⊎◌, Bool, true, false, List, [], ◌∷◌, ◌++◌, length, refl, sym, ap, subst, ◌∙◌, arith, append_assoc, length-append, append-nil, inl, inr}
use Rattle.der_base.specs.declared.header.Class.{Class}
use Rattle.der_base.specs.declared.header.Class.TheVariants.{Universal, Application, ContextSpecific, Private}
use Rattle.der_base.specs.Cut.{AreShapes, no_shapes, definite_shape, indefinite_shape, IsShape, IsCut, Lacks, in_content, in_elements, DerLacks, der_in_universal, der_in_content}
use Rattle.der_base.specs.Encoding.{content_octets}
use Rattle.der_base.specs.Fault.{ShowsFault, DerShowsFault}
use Rattle.der_base.specs.Headers.{HeaderLacks}
use Rattle.der_base.specs.Octets.{identifier, shortest_length, SpellsAnyLength}
use Rattle.der_base.specs.Spelling.{BerSpells, DerSpells, end_marker, framing_budget}
use Rattle.der_base.specs.Stable.{BerIsCut, DerIsCut, FrontsAreCut}
use Rattle.der_base.specs.Tree.{Node, node}
use Rattle.der_base.proofs.Framing.Elements.{begins_element}
use Rattle.der_base.proofs.Framing.FramingCuts.{header_cut}
use Rattle.der_base.proofs.Framing.RawLists.{marker_is}
use Rattle.der_base.proofs.Framing.Shapes.{element_shape}
use Rattle.der_base.proofs.Headers.HeaderLaws.{fronts, header_or_behind}
use Rattle.der_base.proofs.Octets.ShortestLengths.{shortest_spells}
use Rattle.der_values.proofs.LawsLaws.Spellings.AppendedBer.{shown_appended}
use Rattle.der_values.proofs.LawsLaws.Spellings.AppendedDer.{der_shown_appended}
use Rattle.der_values.proofs.LawsLaws.Spellings.BerFaults.{spelled_begins}
use Rattle.der_values.proofs.LawsLaws.Spellings.BerFaults as ber
use Rattle.der_values.proofs.LawsLaws.Spellings.DerFaults as der
use Rattle.der_values.proofs.LawsLaws.Spellings.DerLacking.{der_header_lacks}
use Rattle.der_values.proofs.LawsLaws.Spellings.DerWithinBer.{der_element, der_shape}

some_octets : (r : List ℕ) → r ≢ [] → 1 ≤ length r
some_octets [] n = absurd (n refl)
some_octets (b ∷ r) n = omega arith

-- what a front of an element lacks

-- of a definite length it ends within the header, or within the content
definite_ends : (i r : List ℕ) (c : Class) (p : Bool) (t : ℕ) (s v : List ℕ) → r ≢ [] → SpellsAnyLength s (length v) → i ++ r ≡ identifier c p t ++ s ++ v
    → ((n : ℕ) × HeaderLacks i n) ⊎ ((y : List ℕ) × (1 ≤ length r) × SpellsAnyLength s (length y + length r) × (i ≡ identifier c p t ++ s ++ y))
definite_ends i r c p t s v some hs e = elim (header_or_behind i r (identifier c p t ++ s) v some (c, p, t, s, refl, inl (length v, hs)) e) [
  | inl h ↦ inl h
  | inr (y, z, w) ↦ inr (y, some_octets r some, subst (SpellsAnyLength s) (ap length (sym w) ∙ length-append y r) hs, z)
]

definite_front : (i r : List ℕ) (c : Class) (p : Bool) (t : ℕ) (s v : List ℕ) → r ≢ [] → SpellsAnyLength s (length v) → i ++ r ≡ identifier c p t ++ s ++ v → (n : ℕ) × Lacks i n
definite_front i r c p t s v some hs e = elim (definite_ends i r c p t s v some hs e) [
  | inl (n, h) ↦ (n, (header_cut h).1)
  | inr (y, m, l, z) ↦ (length r, in_content c p t s y m l z)
]

-- of elements in front of an end marker: some are whole, and then one is cut short, or the end marker
record EndsInside (y : List ℕ) : Type 0 where
  whole : List ℕ
  cut : List ℕ
  count : ℕ
  elements : AreShapes whole
  lacks : Lacks cut count
  octets : y ≡ whole ++ cut

-- of an indefinite length
open_front : (i r : List ℕ) (c : Class) (t : ℕ) (v : List ℕ) → r ≢ [] → ((y : List ℕ) → y ++ r ≡ v ++ end_marker → EndsInside y)
    → i ++ r ≡ identifier c true t ++ 128 ∷ v ++ end_marker → (n : ℕ) × Lacks i n
open_front i r c t v some inside e =
    let a = identifier c true t in
    elim (header_or_behind i r (a ++ 128 ∷ []) (v ++ end_marker) some (c, true, t, 128 ∷ [], refl, inr refl)
    (e ∙ append_assoc a (128 ∷ v) end_marker ∙ sym (append_assoc a (128 ∷ []) (v ++ end_marker)))) [
      | inl (n, h) ↦ (n, (header_cut h).1)
      | inr (y, z, w) ↦
          let g = inside y w in
          (g.count, in_elements c t g.whole g.cut g.elements g.lacks (z ∙ append_assoc a (128 ∷ []) y ∙ ap (λ l. a ++ 128 ∷ l) g.octets ∙ sym (append_assoc a (128 ∷ g.whole) g.cut)))
    ]

first_cut : (y : List ℕ) (n : ℕ) → Lacks y n → EndsInside y
first_cut y n h = record { whole = []; cut = y; count = n; elements = no_shapes; lacks = h; octets = refl }

ends_inside : {v : List ℕ} → AreShapes v → (y r : List ℕ) → r ≢ [] → y ++ r ≡ v ++ end_marker → EndsInside y
ends_inside no_shapes y r some e =
    let q = definite_front y r Universal false 0 (0 ∷ []) [] some (inl (omega arith, refl, refl)) (e ∙ sym (append-nil (identifier Universal false 0 ++ 0 ∷ []) ∙ marker_is [])) in
    first_cut y q.0 q.1
ends_inside (definite_shape {w = w} c p t s v rest hs hn d h) y r some e =
    let b = identifier c p t ++ s ++ v in
    elim (fronts y b r (rest ++ end_marker) (e ∙ ap (λ l. l ++ end_marker) d ∙ append_assoc b rest end_marker)) [
      | inl (m, k, z) ↦ let q = definite_front y m c p t s v k hs z in first_cut y q.0 q.1
      | inr (x, z, o) ↦
          let g = ends_inside h x r some o in
          record {
            whole = b ++ g.whole;
            cut = g.cut;
            count = g.count;
            elements = definite_shape c p t s v g.whole hs hn refl g.elements;
            lacks = g.lacks;
            octets = z ∙ ap (λ l. b ++ l) g.octets ∙ sym (append_assoc b g.whole g.cut);
          }
    ]
ends_inside (indefinite_shape {w = w} c t v rest hv d h) y r some e =
    let b = identifier c true t ++ 128 ∷ v ++ end_marker in
    elim (fronts y b r (rest ++ end_marker) (e ∙ ap (λ l. l ++ end_marker) d ∙ append_assoc b rest end_marker)) [
      | inl (m, k, z) ↦
          let q = open_front y m c t v k (λ x o. ends_inside hv x m k o) z in
          first_cut y q.0 q.1
      | inr (x, z, o) ↦
          let g = ends_inside h x r some o in
          record {
            whole = b ++ g.whole;
            cut = g.cut;
            count = g.count;
            elements = indefinite_shape c t v g.whole hv refl g.elements;
            lacks = g.lacks;
            octets = z ∙ ap (λ l. b ++ l) g.octets ∙ sym (append_assoc b g.whole g.cut);
          }
    ]

-- What is cut short lacks some number of octets.
pub cut_lacks : (i : List ℕ) → IsCut i → (n : ℕ) × Lacks i n
cut_lacks i (r, some, (c, p, t, v, inl (s, hs, e))) = definite_front i r c p t s v some hs e
cut_lacks i (r, some, (c, p, t, v, inr (ep, hv, e))) = open_front i r c t v some (λ y o. ends_inside hv y r some o) (e ∙ ap (λ q. identifier c q t ++ 128 ∷ v ++ end_marker) ep)

-- by BER

ber_shape : (b : List ℕ) (o : Node) (d : ℕ) → BerSpells b o d framing_budget → IsShape b
ber_shape b (node c p t x) d h =
    let q = spelled_begins b b [] c p t x d (sym (append-nil b)) h in
    let g = begins_element b framing_budget c p t q.0 [] q.1 in
    subst IsShape (sym (g.1 ∙ append-nil g.0)) (element_shape g.0 framing_budget c p t q.0 g.2)

pub ber_fronts_are_cut : (d : ℕ) (b : List ℕ) (o : Node) → BerSpells b o d framing_budget → FrontsAreCut BerIsCut d b
ber_fronts_are_cut d b o h u v some e =
    let cut : IsCut u = (v, some, subst IsShape e (ber_shape b o d h)) in
    let q = cut_lacks u cut in
    (q.0, (cut, q.1, λ x s. ber.spelled_shows_nothing d b b [] o x (sym (append-nil b)) h (subst (λ l. ShowsFault d l x) (sym e) (shown_appended d u v x s))))

-- by DER

der_content_front : (i : List ℕ) (c : Class) (p : Bool) (t : ℕ) (s y : List ℕ) (m : ℕ) → 1 ≤ m → SpellsAnyLength s (length y + m) → i ≡ identifier c p t ++ s ++ y → (n : ℕ) × DerLacks i n
der_content_front i Universal p t s y m h hs e = (length y + m, der_in_universal p t s y (omega (arith, h)) hs e)
der_content_front i Application p t s y m h hs e = (m, der_in_content Application p t s y (λ z. cc) h hs e)
der_content_front i ContextSpecific p t s y m h hs e = (m, der_in_content ContextSpecific p t s y (λ z. cc) h hs e)
der_content_front i Private p t s y m h hs e = (m, der_in_content Private p t s y (λ z. cc) h hs e)

der_front_lacks : (b u v : List ℕ) (o : Node) (d : ℕ) → DerSpells b o d → v ≢ [] → b ≡ u ++ v → (n : ℕ) × DerLacks u n
der_front_lacks b u v (node c p t x) d h some e =
    let w = content_octets x in
    let s = shortest_length (length w) in
    elim (definite_ends u v c p t s w some (shortest_spells (length w) (omega (arith, h.size))).1 (sym e ∙ der_element b c p t x d h)) [
      | inl (n, k) ↦ (n, der_header_lacks k)
      | inr (y, m, l, z) ↦ der_content_front u c p t s y (length v) m l z
    ]

pub der_fronts_are_cut : (d : ℕ) (b : List ℕ) (o : Node) → DerSpells b o d → FrontsAreCut DerIsCut d b
der_fronts_are_cut d b o h u v some e =
    let cut : IsCut u = (v, some, subst IsShape e (der_shape b o d h)) in
    let q = der_front_lacks b u v o d h some e in
    (q.0, (cut, q.1, λ x s. der.spelled_shows_nothing d b b [] o x (sym (append-nil b)) h (subst (λ l. DerShowsFault d l x) (sym e) (der_shown_appended d u v x s))))
