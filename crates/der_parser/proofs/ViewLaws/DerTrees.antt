-- By DER, the nodes over an element and those inside it show its tree.
use Rattle.std.proofs.Common.{◌≡◌, ℕ, ◌+◌, ◌<◌, ◌^◌, Bool, true, false, List, [], ◌∷◌, ◌++◌, length, refl, sym, ap, subst, ◌∙◌, arith, length-append, ◌⊎◌, inl, inr}
use Rattle.std.proofs.lemmas.Bool.{false≢true}
use Rattle.der_base.specs.declared.header.Class.{Class}
use Rattle.der_base.specs.declared.header.Class.TheVariants.{Universal}
use Rattle.der_base.specs.declared.rules.Rules.TheVariants.{Der}
use Rattle.der_base.specs.Encoding.{encoding, encodings, content_octets, content_octets_of}
use Rattle.der_base.specs.Leaf.{IsLeafContent, IsDerLeaf}
use Rattle.der_base.specs.Octets.{identifier, shortest_length}
use Rattle.der_base.specs.Spelling.{IsDerValid, IsDerContent, AreDerValid, IsKept}
use Rattle.der_base.specs.Tree.{Node, node, Content, sequence, set, Nodes, no_nodes, nodes}
use Rattle.der_base.proofs.Framing.Elements.{definite_part, identifier_some}
use Rattle.der_base.proofs.Framing.RawLists.{definite_same}
use Rattle.der_base.proofs.Octets.ShortestLengths.{shortest_spells}
use Rattle.der_values.proofs.LawsLaws.Spellings.DerWithinBer.{valid_element, content_shorter}
use Rattle.der_elements.specs.Check.Elements.{AreElements, IsElement, SpellsLengthBy, none, one_more, primitive, constructed, indefinite}
use Rattle.der_elements.proofs.CheckLaws.OneList.{not_empty, spells_by_ber}
use Rattle.der_parser.specs.Viewing.Laws.{DerTreesShow, IsShownBy, AreShownBy, ShowsTree, ShowsContent, ShowItems}
use Rattle.der_parser.specs.Viewing.Views.{View, content_of, trees}
use Rattle.der_parser.proofs.ViewLaws.ElementViews.{element_shows}

-- an element that begins where the encoding of a tree does is that encoding
record SameOctets (c k : Class) (p q : Bool) (t u : ℕ) (v w b y z : List ℕ) (o : Node) : Type 0 where
  class : k ≡ c
  constructed : q ≡ p
  number : u ≡ t
  content : w ≡ v
  octets : encoding o ≡ b
  rest : y ≡ z

same_octets : (c k : Class) (p q : Bool) (t u : ℕ) (x : Content) (s w b y z : List ℕ) → IsDerContent c p t x → length (content_octets x) < 2 ^ 64 → SpellsLengthBy Der s (length w)
    → b ≡ identifier k q u ++ s ++ w → encoding (node c p t x) ++ y ≡ b ++ z → SameOctets c k p q t u (content_octets x) w b y z (node c p t x)
same_octets c k p q t u x s w b y z valid size hs eb e =
    let v = content_octets x in
    let l = shortest_length (length v) in
    let whole = valid_element c p t x valid in
    let (ec, ep, et, es, ew, ey) = definite_same c k p q t u l s v w y z (shortest_spells (length v) size) (spells_by_ber Der s (length w) hs)
    (sym (definite_part c p t l v (encoding (node c p t x)) y whole) ∙ e ∙ definite_part k q u s w b z eb) in
    record { class = sym ec; constructed = sym ep; number = sym et; content = sym ew; octets = whole ∙ same ec ep et es ew ∙ sym eb; rest = ey }
  where
    same : c ≡ k → p ≡ q → t ≡ u → shortest_length (length (content_octets x)) ≡ s → content_octets x ≡ w
        → identifier c p t ++ shortest_length (length (content_octets x)) ++ content_octets x ≡ identifier k q u ++ s ++ w
    same ec ep et es ew = cc

-- what DER says of a content that is no list, of a node
leaf_part : (v : View) (c : Class) (p : Bool) (t : ℕ) (x : Content) → v.element.class ≡ c → v.element.constructed ≡ p → v.element.number ≡ t → content_of v ≡ content_octets x
    → ((c ≡ Universal) × (p ≡ false) × IsDerLeaf t x) ⊎ IsKept c p t (content_octets x) x
    → ((v.element.class ≡ Universal) × IsLeafContent v.element.constructed v.element.number (content_of v) x) ⊎ IsKept v.element.class v.element.constructed v.element.number (content_of v) x
leaf_part v c p t x ec ep et ew (inl (eu, ef, h)) = inl (ec ∙ eu, rw (ep ∙ ef, et, ew) h.0)
leaf_part v c p t x ec ep et ew (inr k) = inr (rw (ec, ep, et, ew) k)

-- the content of a tree is shown, where its items are
content_shown : (v : View) (c : Class) (p : Bool) (t : ℕ) (x : Content) → v.element.class ≡ c → v.element.constructed ≡ p → v.element.number ≡ t → content_of v ≡ content_octets x → IsDerContent c p t x
    → ((l : Nodes) → content_octets x ≡ encodings l → p ≡ true → AreDerValid l → ShowItems (trees v.input v.inside) l) → (v.element.constructed ≡ false → v.inside ≡ []) → ShowsContent v x
content_shown v c p t (sequence l) ec ep et ew h items empty = ((ec ∙ h.0, et ∙ h.1), items l refl h.2 h.3)
content_shown v c p t (set l) ec ep et ew h items empty = ((ec ∙ h.0, et ∙ h.1), items l refl h.2 h.3)
content_shown v c p t x ec ep et ew h items empty = (leaf_part v c p t x ec ep et ew h, empty)

tree_some : (o : Node) (y : List ℕ) → IsDerValid o → [] ≡ encoding o ++ y → ⊥
tree_some (node c p t x) y valid e =
    let w = content_octets x in
    let s = shortest_length (length w) in
    identifier_some c p t (s ++ (w ++ y)) (e ∙ definite_part c p t s w (encoding (node c p t x)) y (valid_element c p t x valid.1))

mutual
  tree_shown : {d : ℕ} {b : List ℕ} (o : Node) (y z : List ℕ) (v : View) (is : IsElement Der d b) → IsDerValid o → length (content_octets_of o) < 2 ^ 64 → encoding o ++ y ≡ b ++ z → IsShownBy is v
      → ShowsTree v o × (encoding o ≡ b) × (y ≡ z)
  tree_shown {b = b} (node c p t x) y z v (primitive k u s w ht hs eb m) valid size e (parts, none_inside) =
      let q = same_octets c k p false t u x s w b y z valid.1 size hs eb e in
      let ec = parts.class ∙ q.class in
      let ep = parts.constructed ∙ q.constructed in
      let et = parts.number ∙ q.number in (
        (
          ec,
          ep,
          et,
          content_shown v c p t x ec ep et (parts.content ∙ q.content) valid.1 (λ l ex true_p are. absurd (false≢true (q.constructed ∙ true_p))) (λ ef. none_inside),
        ),
        q.octets,
        q.rest,
      )
  tree_shown {b = b} (node c p t x) y z v (constructed k u s w ht hs eb m are) valid size e (parts, inside) =
      let q = same_octets c k p true t u x s w b y z valid.1 size hs eb e in
      let ec = parts.class ∙ q.class in
      let ep = parts.constructed ∙ q.constructed in
      let et = parts.number ∙ q.number in (
        (
          ec,
          ep,
          et,
          content_shown v c p t x ec ep et (parts.content ∙ q.content) valid.1
              (λ l ex true_p valid_l. items_shown (trees v.input v.inside) are l inside valid_l (subst (λ j. length j < 2 ^ 64) ex size) (sym ex ∙ sym q.content))
              (λ ef. absurd (false≢true (sym ef ∙ parts.constructed))),
        ),
        q.octets,
        q.rest,
      )
  tree_shown (node c p t x) y z v (indefinite k u w ht er eb m are) valid size e shown = absurd (cc)

  items_shown : {d : ℕ} {w : List ℕ} (vs : List View) (are : AreElements Der d w) (l : Nodes) → AreShownBy are vs → AreDerValid l → length (encodings l) < 2 ^ 64 → encodings l ≡ w → ShowItems vs l
  items_shown vs none no_nodes shown valid size e = subst (λ us. ShowItems us no_nodes) (sym shown) tt
  items_shown vs none (nodes o l) shown valid size e = absurd (tree_some o (encodings l) valid.0 (sym e))
  items_shown [] (one_more b rest eb is more) l shown valid size e = absurd shown
  items_shown (v ∷ vs) (one_more b rest eb is more) no_nodes shown valid size e = absurd (not_empty rest is (e ∙ eb))
  items_shown (v ∷ vs) (one_more b rest eb is more) (nodes o l) shown valid size e =
      let both : length (encodings (nodes o l)) ≡ length (encoding o) + length (encodings l) = length-append (encoding o) (encodings l) in
      let first = tree_shown o (encodings l) rest v is valid.0 (omega (arith, both, size, content_shorter o valid.0)) (e ∙ eb) shown.0 in
      (first.0, items_shown vs more l shown.1 valid.1 (omega (arith, both, size)) first.2)

pub der_trees_show : DerTreesShow
der_trees_show d d' i rest b behind o is (a, ea, h) eb =
    let (v, one, shown) = element_shows Der d' i [] b behind is eb in
    let q = tree_shown o rest behind v is h.valid (omega (arith, h.size)) (ap (λ j. j ++ rest) (sym h.encoded) ∙ sym ea ∙ eb) shown in
    (q.2, subst (λ vs. ShowItems vs (nodes o no_nodes)) (sym one) (q.0, tt))
