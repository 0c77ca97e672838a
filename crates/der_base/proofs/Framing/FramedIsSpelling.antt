-- The definitions of specs/Framed and those of specs/Spelling say the same.
use Rattle.std.proofs.Common.{◌≡◌, ◌≢◌, ℕ, ◌-◌, ◌≤◌, Bool, true, List, [], ◌∷◌, ◌++◌, refl, sym, ap, subst, ◌∙◌, arith, append_assoc, inl, inr}
use Rattle.der_base.specs.declared.header.Class.{Class}
use Rattle.der_base.specs.declared.header.Length.{Length}
use Rattle.der_base.specs.Octets.{identifier}
use Rattle.der_base.specs.Tree.{Node, node, Content, sequence, set, Nodes, no_nodes, nodes}
use Rattle.der_base.specs.Spelling.{end_marker, framing_budget, IsRawList, Form, form, Forms, no_forms, forms, BerSpellsAs, BerSpells, IsContent, IsOpenContent, Joins, OpenJoins}
use Rattle.der_base.specs.Spelling as old
use Rattle.der_base.specs.Inner.Framed.{IsElement, definite, indefinite, AreElements, no_elements, elements, Spells, HasContent, JoinSpellings}
use Rattle.der_base.proofs.Framing.RawLists.{open_not_end}
use Rattle.der_base.proofs.Framing.Elements.{identifier_some}
use Rattle.der_base.proofs.Framing.Framed.{elements_more, element_same}

right : (i s w : List ℕ) → i ++ s ++ w ≡ i ++ (s ++ w)
right i s w = append_assoc i s w

-- the lists of elements
pub raws_are : {w : List ℕ} {k : ℕ} → IsRawList w k → AreElements w k
raws_are old.empty = no_elements
raws_are (old.definite c p t s v rest ht hk hl hn d r) =
    elements (definite s refl ht hk hl (right (identifier c p t) s v)) hn (raws_are r) d
raws_are (old.indefinite c t v rest ht hk hv d r) =
    elements (indefinite refl refl ht hk (raws_are hv) (right (identifier c true t) (128 ∷ v) end_marker)) (open_is_no_end c true t v) (raws_are r) d
  where
    open_is_no_end : (c : Class) (p : Bool) (t : ℕ) (w : List ℕ) → identifier c p t ++ 128 ∷ w ++ end_marker ≢ end_marker
    open_is_no_end c p t w e = open_not_end c p t (w ++ end_marker) [] (sym (append_assoc (identifier c p t) (128 ∷ w) end_marker) ∙ e)

pub are_raws : {w : List ℕ} {k : ℕ} → AreElements w k → IsRawList w k
are_raws no_elements = old.empty
are_raws (elements {b = b} {rest = rest} (definite {c = c} {p = p} {t = t} {w = v} s eh ht hk hs e) n r d) =
    old.definite c p t s v rest ht hk hs (λ z. n (e ∙ sym (right (identifier c p t) s v) ∙ z)) (d ∙ ap (λ l. l ++ rest) (e ∙ sym (right (identifier c p t) s v))) (are_raws r)
are_raws (elements {b = b} {rest = rest} (indefinite {c = c} {p = p} {t = t} {w = v} eh ep ht hk hw e) n r d) =
    old.indefinite c t v rest ht hk (are_raws hw) (d ∙ ap (λ l. l ++ rest) (e ∙ sym (right (identifier c p t) (128 ∷ v) end_marker)) ∙ ap (λ q. identifier c q t ++ 128 ∷ v ++ end_marker ++ rest) ep)
    (are_raws r)

-- an element with the header of the object
abbrev IsElementFor : List ℕ → Node → Form → ℕ → Type 0
IsElementFor b (node c p t x) (form h fs) k = (w : List ℕ) × IsElement b h c p t w k

cons_for : (o : Node) (b rest w : List ℕ) (f : Form) (k : ℕ) → IsElementFor b o f k → b ≢ end_marker → AreElements rest k → w ≡ b ++ rest → AreElements w k
cons_for (node c p t x) b rest w (form h fs) k (v, g) n r e = elements g n r e

moved : {b b' : List ℕ} {h h' : Length} {c c' : Class} {p p' : Bool} {t t' : ℕ} {w w' : List ℕ} (k : ℕ) → b ≡ b' → h ≡ h' → c ≡ c' → p ≡ p' → t ≡ t' → w ≡ w' → IsElement b h c p t w k
    → IsElement b' h' c' p' t' w' k
moved {b = b} {b' = b'} {h = h} {h' = h'} {c = c} {c' = c'} {p = p} {p' = p'} {t = t} {t' = t'} {w = w} k eb eh ec ep et ew g =
    subst (λ l. IsElement b' h' c' p' t' l k) ew (subst (λ l. IsElement b' h' c' p' l w k) et
    (subst (λ l. IsElement b' h' c' l t w k) ep (subst (λ l. IsElement b' h' l p t w k) ec (subst (λ l. IsElement b' l c p t w k) eh (subst (λ l. IsElement l h c p t w k) eb g)))))

some : {b : List ℕ} {h : Length} {c : Class} {p : Bool} {t : ℕ} {w : List ℕ} {k : ℕ} (x : List ℕ) → IsElement b h c p t w k → [] ≡ b ++ x → ⊥
some x (definite {b = b} {c = c} {p = p} {t = t} {w = w} s eh ht hk hs d) e = identifier_some c p t ((s ++ w) ++ x) (e ∙ ap (λ l. l ++ x) d ∙ append_assoc (identifier c p t) (s ++ w) x)
some x (indefinite {b = b} {c = c} {p = p} {t = t} {w = w} eh ep ht hk hw d) e =
    identifier_some c p t ((128 ∷ w ++ end_marker) ++ x) (e ∙ ap (λ l. l ++ x) d ∙ append_assoc (identifier c p t) (128 ∷ w ++ end_marker) x)

split_as : {i : List ℕ} {k : ℕ} (b rest : List ℕ) (h : Length) (c : Class) (p : Bool) (t : ℕ) (w : List ℕ) (m : ℕ) → AreElements i k → IsElement b h c p t w m → i ≡ b ++ rest
    → IsElement b h c p t w k × (b ≢ end_marker) × AreElements rest k
split_as b rest h c p t w m no_elements g e = absurd (some rest g e)
split_as b rest h c p t w m (elements {k = k} {b = b'} {rest = rest'} {h = h'} {c = c'} {p = p'} {t = t'} {v = v'} g' n' r' d') g e =
    let q = element_same rest' rest g' g (sym d' ∙ e) in
    (moved k q.octets q.length q.class q.constructed q.number q.content g', (λ z. n' (q.octets ∙ z)), subst (λ l. AreElements l k) q.rest r')

next_for : (o : Node) (i b rest : List ℕ) (f : Form) (k m : ℕ) → AreElements i k → IsElementFor b o f m → i ≡ b ++ rest → IsElementFor b o f k × (b ≢ end_marker) × AreElements rest k
next_for (node c p t x) i b rest (form h fs) k m r (v, g) e = let q = split_as b rest h c p t v m r g e in ((v, q.0), q.1, q.2)

framed_for : (o : Node) (b : List ℕ) (f : Form) (d : ℕ) → Spells b o f d → IsElementFor b o f framing_budget
framed_for (node c p t x) b (form h fs) d s = (s.1, s.2)

mutual
  -- a spelling within a budget is an element within it, that spells the tree
  pub spells_now : (o : Node) (b : List ℕ) (f : Form) (d k : ℕ) → k ≤ framing_budget → BerSpellsAs b o f d k → Spells b o f d × IsElementFor b o f k
  spells_now (node c p t x) b (form h fs) d k le (ht, hd, hk, inl (s, w, eh, hs, e, hc)) =
      let a = e ∙ right (identifier c p t) s w in
      ((hd, w, definite s eh ht (omega arith) hs a, content_now x w c p t fs d framing_budget (omega arith) hc), (w, definite s eh ht hk hs a))
  spells_now (node c p t x) b (form h fs) d k le (ht, hd, hk, inr (w, eh, ep, h2, e, ho)) =
      let a = e ∙ right (identifier c p t) (128 ∷ w) end_marker in
      let q = open_now x w c t fs d (k - 1) (omega (arith, le)) ho in
      ((hd, w, indefinite eh ep ht (omega arith) (elements_more 49 (omega (arith, le)) q.1) a, subst (λ z. HasContent w c z t x fs d) (sym ep) q.0), (w, indefinite eh ep ht h2 q.1 a))

  pub content_now : (x : Content) (w : List ℕ) (c : Class) (p : Bool) (t : ℕ) (fs : Forms) (d k : ℕ) → k ≤ framing_budget → IsContent w c p t x fs d k → HasContent w c p t x fs d
  content_now (sequence l) w c p t fs d k le (ec, et, ep, j) = (ec, et, ep, joins_now l w fs (d - 1) k le j)
  content_now (set l) w c p t fs d k le (ec, et, ep, j) = (ec, et, ep, joins_now l w fs (d - 1) k le j)
  content_now _ w c p t fs d k le h = h

  pub open_now : (x : Content) (w : List ℕ) (c : Class) (t : ℕ) (fs : Forms) (d k : ℕ) → k ≤ framing_budget → IsOpenContent w c t x fs d k → HasContent w c true t x fs d × AreElements w k
  open_now (sequence l) w c t fs d k le (ec, et, j) = let q = open_joins_now l w fs (d - 1) k le j in ((ec, et, refl, q.0), q.1)
  open_now (set l) w c t fs d k le (ec, et, j) = let q = open_joins_now l w fs (d - 1) k le j in ((ec, et, refl, q.0), q.1)
  open_now _ w c t fs d k le (ef, hr, hx) = ((ef, hx), raws_are hr)

  pub joins_now : (l : Nodes) (w : List ℕ) (fs : Forms) (d k : ℕ) → k ≤ framing_budget → Joins w l fs d k → JoinSpellings w l fs d
  joins_now no_nodes w no_forms d k le h = h
  joins_now no_nodes w (forms f fs) d k le h = absurd h
  joins_now (nodes o l) w no_forms d k le h = absurd h
  joins_now (nodes o l) w (forms f fs) d k le (b, rest, e, hb, hr) = (b, rest, e, (spells_now o b f d k le hb).0, joins_now l rest fs d k le hr)

  pub open_joins_now : (l : Nodes) (w : List ℕ) (fs : Forms) (d k : ℕ) → k ≤ framing_budget → OpenJoins w l fs d k → JoinSpellings w l fs d × AreElements w k
  open_joins_now no_nodes w no_forms d k le h = (h, subst (λ u. AreElements u k) (sym h) no_elements)
  open_joins_now no_nodes w (forms f fs) d k le h = absurd h
  open_joins_now (nodes o l) w no_forms d k le h = absurd h
  open_joins_now (nodes o l) w (forms f fs) d k le (b, rest, e, n, hb, hr) =
      let q = spells_now o b f d k le hb in
      let r = open_joins_now l rest fs d k le hr in
      ((b, rest, e, q.0, r.0), cons_for o b rest w f k q.1 n r.1 e)

mutual
  -- and back
  pub spells_then : (o : Node) (b : List ℕ) (f : Form) (d k : ℕ) → Spells b o f d → IsElementFor b o f k → BerSpellsAs b o f d k
  spells_then (node c p t x) b (form h fs) d k (hd, w, g, hc) (v, definite s eh ht hk hs a) =
      let q = element_same [] [] (definite s eh ht hk hs a) g refl in
      (ht, hd, hk, inl (s, v, eh, hs, a ∙ sym (right (identifier c p t) s v), content_then x v c p t fs d (subst (λ l. HasContent l c p t x fs d) (sym q.content) hc)))
  spells_then (node c p t x) b (form h fs) d k (hd, w, g, hc) (v, indefinite eh ep ht hk hw a) =
      let q = element_same [] [] (indefinite eh ep ht hk hw a) g refl in (
        ht,
        hd,
        omega (arith, hk),
        inr (
          v,
          eh,
          ep,
          hk,
          a ∙ sym (right (identifier c p t) (128 ∷ v) end_marker),
          open_then x v c p t fs d (k - 1) ep (subst (λ l. HasContent l c p t x fs d) (sym q.content) hc) hw,
        ),
      )

  pub content_then : (x : Content) (w : List ℕ) (c : Class) (p : Bool) (t : ℕ) (fs : Forms) (d : ℕ) → HasContent w c p t x fs d → IsContent w c p t x fs d framing_budget
  content_then (sequence l) w c p t fs d (ec, et, ep, j) = (ec, et, ep, joins_then l w fs (d - 1) j)
  content_then (set l) w c p t fs d (ec, et, ep, j) = (ec, et, ep, joins_then l w fs (d - 1) j)
  content_then _ w c p t fs d h = h

  pub open_then : (x : Content) (w : List ℕ) (c : Class) (p : Bool) (t : ℕ) (fs : Forms) (d k : ℕ) → p ≡ true → HasContent w c p t x fs d → AreElements w k → IsOpenContent w c t x fs d k
  open_then (sequence l) w c p t fs d k ep (ec, et, _, j) r = (ec, et, open_joins_then l w fs (d - 1) k j r)
  open_then (set l) w c p t fs d k ep (ec, et, _, j) r = (ec, et, open_joins_then l w fs (d - 1) k j r)
  open_then x w c p t fs d k ep h r = let g = subst (λ z. HasContent w c z t x fs d) ep h in (g.0, are_raws r, g.1)

  pub joins_then : (l : Nodes) (w : List ℕ) (fs : Forms) (d : ℕ) → JoinSpellings w l fs d → Joins w l fs d framing_budget
  joins_then no_nodes w no_forms d h = h
  joins_then no_nodes w (forms f fs) d h = absurd h
  joins_then (nodes o l) w no_forms d h = absurd h
  joins_then (nodes o l) w (forms f fs) d (b, rest, e, hb, hr) = (b, rest, e, spells_then o b f d framing_budget hb (framed_for o b f d hb), joins_then l rest fs d hr)

  pub open_joins_then : (l : Nodes) (w : List ℕ) (fs : Forms) (d k : ℕ) → JoinSpellings w l fs d → AreElements w k → OpenJoins w l fs d k
  open_joins_then no_nodes w no_forms d k h r = h
  open_joins_then no_nodes w (forms f fs) d k h r = absurd h
  open_joins_then (nodes o l) w no_forms d k h r = absurd h
  open_joins_then (nodes o l) w (forms f fs) d k (b, rest, e, hb, hr) r =
      let q = next_for o w b rest f k framing_budget r (framed_for o b f d hb) e in
      (b, rest, e, q.1, spells_then o b f d k hb q.0, open_joins_then l rest fs d k hr q.2)

-- the two definitions agree
pub restated : (b : List ℕ) (o : Node) (d : ℕ) → BerSpells b o d framing_budget → (f : Form) × Spells b o f d
restated b o d (f, h) = (f, (spells_now o b f d framing_budget (omega arith) h).0)

pub restated_back : (b : List ℕ) (o : Node) (d : ℕ) → ((f : Form) × Spells b o f d) → BerSpells b o d framing_budget
restated_back b o d (f, h) = (f, spells_then o b f d framing_budget h (framed_for o b f d h))
