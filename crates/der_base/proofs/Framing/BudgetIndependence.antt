-- A spelling within a budget is one raw element within it, spelled within any other budget.
use Rattle.std.proofs.Common.{◌≡◌, ◌≢◌, ℕ, ◌-◌, ◌^◌, ◌<◌, ◌≤◌, Bool, true, List, [], ◌∷◌, ◌++◌, length, refl, sym, subst, ◌∙◌, arith, inl, inr}
use Rattle.der_base.specs.declared.header.Class.{Class}
use Rattle.der_base.specs.Octets.{identifier}
use Rattle.der_base.specs.Tree.{Node, node, Content, sequence, set, Nodes, no_nodes, nodes}
use Rattle.der_base.specs.Spelling.{IsRawList, empty, end_marker, framing_budget, Form, form, Forms, no_forms, forms, BerSpellsAs, BerSpells, IsOpenContent, OpenJoins}
use Rattle.der_base.proofs.Framing.RawLists.{raws_more, definite_not_open}
use Rattle.der_base.proofs.Framing.Elements.{IsElement, element_same, definite_part, open_part, raws_cons, raws_next}

-- an element with the header of the object
abbrev pub IsElementOf : List ℕ → Node → ℕ → Type 0
IsElementOf b (node c p t x) k = (w : List ℕ) × IsElement b k c p t w

raws_cons_of : (o : Node) (b rest : List ℕ) (k : ℕ) → IsElementOf b o k → b ≢ end_marker → IsRawList rest k → IsRawList (b ++ rest) k
raws_cons_of (node c p t x) b rest k (w, h) n r = raws_cons b rest k c p t w h n r

raws_next_of : (o : Node) (i b rest : List ℕ) (k m : ℕ) → IsRawList i k → IsElementOf b o m → i ≡ b ++ rest → IsElementOf b o k × IsRawList rest k
raws_next_of (node c p t x) i b rest k m r (w, h) e = let q = raws_next b rest m c p t w r h e in ((w, q.0), q.2)

mutual
  -- a spelling is an element, and has a larger budget too
  pub spelled : (o : Node) (b : List ℕ) (f : Form) (d k m : ℕ) → k ≤ m → BerSpellsAs b o f d k → BerSpellsAs b o f d m × IsElementOf b o k
  spelled (node c p t x) b (form h fs) d k m le (ht, hd, hk, inl (s, w, eh, hs, e, hc)) =
      ((ht, hd, omega (arith, le, hk), inl (s, w, eh, hs, e, hc)), (w, (ht, hk, inl (s, hs, e))))
  spelled (node c p t x) b (form h fs) d k m le (ht, hd, hk, inr (w, eh, ep, h2, e, ho)) =
      let r = open_spelled x w c t fs d (k - 1) (m - 1) (omega (arith, le)) ho in
      ((ht, hd, omega (arith, le, hk), inr (w, eh, ep, omega (arith, le, h2), e, r.0)), (w, (ht, hk, inr (ep, h2, r.1, e))))

  pub open_spelled : (x : Content) (w : List ℕ) (c : Class) (t : ℕ) (fs : Forms) (d k m : ℕ) → k ≤ m → IsOpenContent w c t x fs d k → IsOpenContent w c t x fs d m × IsRawList w k
  open_spelled (sequence l) w c t fs d k m le (ec, et, j) = let r = items_spelled l w fs (d - 1) k m le j in ((ec, et, r.0), r.1)
  open_spelled (set l) w c t fs d k m le (ec, et, j) = let r = items_spelled l w fs (d - 1) k m le j in ((ec, et, r.0), r.1)
  open_spelled _ w c t fs d k m le (ef, hr, hx) = ((ef, raws_more m le hr, hx), hr)

  pub items_spelled : (l : Nodes) (w : List ℕ) (fs : Forms) (d k m : ℕ) → k ≤ m → OpenJoins w l fs d k → OpenJoins w l fs d m × IsRawList w k
  items_spelled no_nodes w no_forms d k m le h = (h, subst (λ u. IsRawList u k) (sym h) empty)
  items_spelled no_nodes w (forms f fs) d k m le h = absurd h
  items_spelled (nodes o l) w no_forms d k m le h = absurd h
  items_spelled (nodes o l) w (forms f fs) d k m le (b, rest, e, n, hb, hr) =
      let r = spelled o b f d k m le hb in
      let q = items_spelled l rest fs d k m le hr in
      ((b, rest, e, n, r.0, q.0), subst (λ u. IsRawList u k) (sym e) (raws_cons_of o b rest k r.1 n q.1))

-- an indefinite length as an element
pub open_element : (x : Content) (b : List ℕ) (c : Class) (p : Bool) (t : ℕ) (w : List ℕ) (fs : Forms) (d m : ℕ) → t < 2 ^ 32 → 2 ≤ m → p ≡ true → b ≡ identifier c p t ++ 128 ∷ w ++ end_marker
    → IsOpenContent w c t x fs d (m - 1) → IsElement b m c p t w
open_element x b c p t w fs d m ht h2 ep e ho = (ht, omega (arith, h2), inr (ep, h2, (open_spelled x w c t fs d (m - 1) (m - 1) (omega arith) ho).1, e))

mutual
  -- an element within a budget, spelled within any other, is spelled within it
  pub within : (o : Node) (b : List ℕ) (f : Form) (d k m : ℕ) → BerSpellsAs b o f d m → IsElementOf b o k → BerSpellsAs b o f d k
  within (node c p t x) b (form h fs) d k m (ht, hd, hm, inl (s, w, eh, hs, e, hc)) (v, g) = (ht, hd, g.1, inl (s, w, eh, hs, e, hc))
  within (node c p t x) b (form h fs) d k m (ht, hd, hm, inr (w, eh, ep, h2, e, ho)) (v, (ht', hk', inl (s', hs', e'))) =
      absurd (definite_not_open c c p p t t (length v) s' (v ++ []) (w ++ (end_marker ++ [])) hs' (sym (definite_part c p t s' v b [] e') ∙ open_part c p t w b [] e))
  within (node c p t x) b (form h fs) d k m (ht, hd, hm, inr (w, eh, ep, h2, e, ho)) (v, (ht', hk', inr (ep', h2', hv', e'))) =
      let q = element_same b b m k c c p p t t w v [] [] (open_element x b c p t w fs d m ht h2 ep e ho) (ht', hk', inr (ep', h2', hv', e')) refl in
      (ht, hd, hk', inr (w, eh, ep, h2', e, open_within x w c t fs d (k - 1) (m - 1) ho (subst (λ u. IsRawList u (k - 1)) (sym q.content) hv')))

  pub open_within : (x : Content) (w : List ℕ) (c : Class) (t : ℕ) (fs : Forms) (d k m : ℕ) → IsOpenContent w c t x fs d m → IsRawList w k → IsOpenContent w c t x fs d k
  open_within (sequence l) w c t fs d k m (ec, et, j) r = (ec, et, items_within l w fs (d - 1) k m j r)
  open_within (set l) w c t fs d k m (ec, et, j) r = (ec, et, items_within l w fs (d - 1) k m j r)
  open_within _ w c t fs d k m (ef, hr, hx) r = (ef, r, hx)

  pub items_within : (l : Nodes) (w : List ℕ) (fs : Forms) (d k m : ℕ) → OpenJoins w l fs d m → IsRawList w k → OpenJoins w l fs d k
  items_within no_nodes w no_forms d k m h r = h
  items_within no_nodes w (forms f fs) d k m h r = absurd h
  items_within (nodes o l) w no_forms d k m h r = absurd h
  items_within (nodes o l) w (forms f fs) d k m (b, rest, e, n, hb, hr) r =
      let q = raws_next_of o w b rest k m r (spelled o b f d m m (omega arith) hb).1 e in
      (b, rest, e, n, within o b f d k m hb q.0, items_within l rest fs d k m hr q.1)

-- the hinge: a spelling within a budget, and one within the whole budget that is an element within this one
pub hinge : (b : List ℕ) (o : Node) (d k : ℕ) → k ≤ framing_budget → BerSpells b o d k → BerSpells b o d framing_budget × IsElementOf b o k
hinge b o d k le (f, h) = let r = spelled o b f d k framing_budget le h in ((f, r.0), r.1)
