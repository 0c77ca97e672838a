-- What is written for a tree that has a spelling by BER is one too: each length is definite, so no framing budget is needed.
use Rattle.std.proofs.Common.{◌≡◌, ℕ, ◌-◌, ◌^◌, ◌<◌, ◌≤◌, Bool, List, ◌++◌, length, length-append, refl, sym, ap, subst, arith, ◌⊎◌, inl, inr}
use Rattle.der_base.specs.declared.header.Class.{Class}
use Rattle.der_base.specs.declared.header.Class.TheVariants.{Universal}
use Rattle.der_base.specs.declared.header.Length.TheVariants.{Definite}
use Rattle.der_base.specs.Encoding.{encoding, element, content_octets, encodings}
use Rattle.der_base.specs.Laws.{EncodingIsNormalForm}
use Rattle.der_base.specs.Leaf.{IsLeafContent}
use Rattle.der_base.specs.Octets.{identifier, shortest_length}
use Rattle.der_base.specs.Spelling.{framing_budget, IsKept, Form, form, Forms, no_forms, forms, BerSpellsAs, BerSpells, IsContent, Joins}
use Rattle.der_base.specs.Tree.{Node, node, Content, sequence, set, absent, present, tagged, unknown, Nodes, no_nodes, nodes}
use Rattle.der_base.proofs.Spellings.Contents.{closed}
use Rattle.der_values.proofs.LawsLaws.Leaves.NormalLeaves.{leaf_written}
use Rattle.der_base.proofs.Octets.ShortestLengths.{shortest_spells}

no_leaf : {A : Type 0} → (A × ⊥) ⊎ ⊥ → ⊥
no_leaf (inl h) = h.1
no_leaf (inr h) = h

-- an object with a content is written as an element of its own header
content_element : (w : List ℕ) (c : Class) (p : Bool) (t : ℕ) (x : Content) (fs : Forms) (d k : ℕ) → IsContent w c p t x fs d k → encoding (node c p t x) ≡ element c p t (content_octets x)
content_element w c p t absent fs d k h = absurd (no_leaf h.1)
content_element w c p t (present o) fs d k h = absurd (no_leaf h.1)
content_element w c p t (tagged c' t' o) fs d k h = absurd (no_leaf h.1)
content_element w c p t x fs d k h = refl

-- octets that are kept are written as they are
kept_written : (c : Class) (p : Bool) (t : ℕ) (w : List ℕ) (x : Content) → IsKept c p t w x → IsKept c p t (content_octets x) x
kept_written c p t w (unknown c' p' t' v) h = (h.0, h.1, h.2, refl, h.4)
kept_written c p t w _ h = absurd h

flat_written : (c : Class) (p : Bool) (t : ℕ) (w : List ℕ) (x : Content) → ((c ≡ Universal) × IsLeafContent p t w x) ⊎ IsKept c p t w x
    → ((c ≡ Universal) × IsLeafContent p t (content_octets x) x) ⊎ IsKept c p t (content_octets x) x
flat_written c p t w x (inl h) = inl (h.0, leaf_written p t w x h.1)
flat_written c p t w x (inr h) = inr (kept_written c p t w x h)

-- an element with that content
element_written : (c : Class) (p : Bool) (t : ℕ) (x : Content) (w : List ℕ) (gs fs : Forms) (d k : ℕ) → t < 2 ^ 32 → 1 ≤ d → IsContent w c p t x gs d k
    → (length (content_octets x) < 2 ^ 64 → (fs : Forms) × IsContent (content_octets x) c p t x fs d framing_budget) → length (encoding (node c p t x)) < 2 ^ 64
    → BerSpells (encoding (node c p t x)) (node c p t x) d framing_budget
element_written c p t x w gs fs d k ht hd hc inside small =
    let v = content_octets x in
    let e : encoding (node c p t x) ≡ element c p t v = content_element w c p t x gs d k hc in
    let few : length v < 2 ^ 64 = omega (arith, small, ap length e, length-append (identifier c p t ++ shortest_length (length v)) v) in
    let q = inside few in
    (form (Definite (length v)) q.0, (ht, hd, omega arith, inl (shortest_length (length v), v, refl, shortest_spells (length v) few, e, q.1)))

mutual
  node_written : (o : Node) (b : List ℕ) (f : Form) (d k : ℕ) → BerSpellsAs b o f d k → length (encoding o) < 2 ^ 64 → BerSpells (encoding o) o d framing_budget
  node_written (node c p t x) b (form h fs) d k (ht, hd, hk, inl (s, w, eh, hs, e, hc)) small =
      element_written c p t x w fs fs d framing_budget ht hd hc (λ few. content_written x w c p t fs d framing_budget hc few) small
  node_written (node c p t x) b (form h fs) d k (ht, hd, hk, inr (w, eh, ep, h2, e, ho)) small =
      let hc : IsContent w c p t x fs d (k - 1) = subst (λ q. IsContent w c q t x fs d (k - 1)) (sym ep) (closed x w c t fs d (k - 1) ho) in
      element_written c p t x w fs fs d (k - 1) ht hd hc (λ few. content_written x w c p t fs d (k - 1) hc few) small

  content_written : (x : Content) (w : List ℕ) (c : Class) (p : Bool) (t : ℕ) (fs : Forms) (d k : ℕ) → IsContent w c p t x fs d k → length (content_octets x) < 2 ^ 64
      → (gs : Forms) × IsContent (content_octets x) c p t x gs d framing_budget
  content_written (sequence l) w c p t fs d k (ec, et, ep, j) small = let q = list_written l w fs (d - 1) k j small in (q.0, (ec, et, ep, q.1))
  content_written (set l) w c p t fs d k (ec, et, ep, j) small = let q = list_written l w fs (d - 1) k j small in (q.0, (ec, et, ep, q.1))
  content_written x w c p t fs d k h small = (no_forms, (refl, flat_written c p t w x h.1))

  list_written : (l : Nodes) (w : List ℕ) (fs : Forms) (d k : ℕ) → Joins w l fs d k → length (encodings l) < 2 ^ 64 → (gs : Forms) × Joins (encodings l) l gs d framing_budget
  list_written no_nodes w fs d k h small = (no_forms, refl)
  list_written (nodes o l) w no_forms d k h small = absurd h
  list_written (nodes o l) w (forms f fs) d k (b, rest, e, hb, hr) small =
      let n = length-append (encoding o) (encodings l) in
      let q = node_written o b f d k hb (omega (arith, small, n)) in
      let r = list_written l rest fs d k hr (omega (arith, small, n)) in
      (forms q.0 r.0, (encoding o, encodings l, refl, q.1, r.1))

-- What is written for a tree that was read by BER spells it.
pub encoding_normal_form : EncodingIsNormalForm
encoding_normal_form b o d k (f, h) small = node_written o b f d k h small
