-- A node has one value, and shows one tree.
use Rattle.std.proofs.Common.{◌≡◌, ℕ, ◌⊎◌, Bool, true, false, List, [], ◌∷◌, refl, sym, ap, ◌∙◌, arith, inl, inr, ⊎_elim}
use Rattle.std.proofs.lemmas.Bool.{false≢true}
use Rattle.der_base.specs.declared.header.Class.{Class}
use Rattle.der_base.specs.declared.header.Class.TheVariants.{Universal}
use Rattle.der_base.specs.Leaf.{is_list, is_mapped, IsLeafContent}
use Rattle.der_base.specs.Refusal.{Refusal}
use Rattle.der_base.specs.Spelling.{IsKept}
use Rattle.der_base.specs.Tree.{Node, node, Content, sequence, set, unknown, Nodes, no_nodes, nodes}
use Rattle.der_values.proofs.LawsLaws.Leaves.AlwaysDer.{leaf_mapped}
use Rattle.der_values.proofs.LawsLaws.Leaves.NeverBoth.{never_both_ber}
use Rattle.der_values.proofs.LawsLaws.Leaves.OneContent.{one_content}
use Rattle.der_values.proofs.LawsLaws.Spellings.BerFaults.{leaf_no_list}
use Rattle.der_values.proofs.LawsLaws.Spellings.DerFaults.{kept_unmapped}
use Rattle.der_parser.specs.Viewing.Laws.{OneValue, ValueOrFault, OneTree, ShowsTree, ShowsContent, ShowItems, without_items}
use Rattle.der_parser.specs.Viewing.Values.{HasContent, HasFault}
use Rattle.der_parser.specs.Viewing.Views.{View, content_of, trees}

-- the content of a node without items
abbrev LeafOrKept : View → Content → Type 0
LeafOrKept v x = ((v.element.class ≡ Universal) × IsLeafContent v.element.constructed v.element.number (content_of v) x)
    ⊎ IsKept v.element.class v.element.constructed v.element.number (content_of v) x

-- what a content is that a node has
data ContentCase (v : View) (x : Content) : Type 0 where
  leaf : without_items x ≡ x → LeafOrKept v x → ContentCase v x
  list : v.element.class ≡ Universal → is_list v.element.number ≡ true
      → (v.element.number ≡ 16) × (without_items x ≡ sequence no_nodes) ⊎ (v.element.number ≡ 17) × (without_items x ≡ set no_nodes) → ContentCase v x

content_case : (v : View) (x : Content) → HasContent v x → ContentCase v x
content_case v (sequence l) (ec, et) = list ec (ap is_list et) (inl (et, refl))
content_case v (set l) (ec, et) = list ec (ap is_list et) (inr (et, refl))
content_case v _ h = leaf refl h

kept_is : (c : Class) (p : Bool) (t : ℕ) (w : List ℕ) (x : Content) → IsKept c p t w x → x ≡ unknown c p t w
kept_is c p t w (unknown c' p' t' v) (ec, ep, et, ew, h) = cc
kept_is c p t w _ h = absurd h

mapped_not_kept : (c : Class) (p : Bool) (t : ℕ) (w : List ℕ) (x : Content) → c ≡ Universal → is_mapped t ≡ true → IsKept c p t w x → ⊥
mapped_not_kept c p t w x ec m h = false≢true (sym (kept_unmapped c p t w x h ec) ∙ m)

leaf_once : (v : View) (x y : Content) → LeafOrKept v x → LeafOrKept v y → x ≡ y
leaf_once v x y (inl (ec, h)) (inl (ec', g)) = one_content _ _ _ x y h g
leaf_once v x y (inl (ec, h)) (inr g) = absurd (mapped_not_kept _ _ _ _ y ec (leaf_mapped _ _ _ x h) g)
leaf_once v x y (inr h) (inl (ec, g)) = absurd (mapped_not_kept _ _ _ _ x ec (leaf_mapped _ _ _ y g) h)
leaf_once v x y (inr h) (inr g) = kept_is _ _ _ _ x h ∙ sym (kept_is _ _ _ _ y g)

list_mapped : (t : ℕ) → (t ≡ 16) ⊎ (t ≡ 17) → is_mapped t ≡ true
list_mapped t (inl e) = ap is_mapped e
list_mapped t (inr e) = ap is_mapped e

-- a list is no such content
list_not_leaf : (v : View) (x : Content) → v.element.class ≡ Universal → (v.element.number ≡ 16) ⊎ (v.element.number ≡ 17) → LeafOrKept v x → ⊥
list_not_leaf v x ec et (inl (ec', h)) = false≢true (sym (leaf_no_list _ _ _ x h) ∙ ⊎_elim (λ e. ap is_list e) (λ e. ap is_list e) et)
list_not_leaf v x ec et (inr h) = mapped_not_kept _ _ _ _ x ec (list_mapped _ et) h

apart : (v : View) → v.element.number ≡ 16 → v.element.number ≡ 17 → ⊥
apart v a b = omega (arith, a, b)

either : {A B : Type 0} (v : View) → (v.element.number ≡ 16) × A ⊎ (v.element.number ≡ 17) × B → (v.element.number ≡ 16) ⊎ (v.element.number ≡ 17)
either v (inl h) = inl h.0
either v (inr h) = inr h.0

same_case : (v : View) (x y : Content) → ContentCase v x → ContentCase v y → without_items x ≡ without_items y
same_case v x y (leaf ex h) (leaf ey g) = ex ∙ leaf_once v x y h g ∙ sym ey
same_case v x y (leaf ex h) (list ec m g) = absurd (list_not_leaf v x ec (either v g) h)
same_case v x y (list ec m h) (leaf ey g) = absurd (list_not_leaf v y ec (either v h) g)
same_case v x y (list ec m (inl h)) (list ec' m' (inl g)) = h.1 ∙ sym g.1
same_case v x y (list ec m (inl h)) (list ec' m' (inr g)) = absurd (apart v h.0 g.0)
same_case v x y (list ec m (inr h)) (list ec' m' (inl g)) = absurd (apart v g.0 h.0)
same_case v x y (list ec m (inr h)) (list ec' m' (inr g)) = h.1 ∙ sym g.1

pub one_value : OneValue
one_value v x y h g = same_case v x y (content_case v x h) (content_case v y g)

no_fault_in : (v : View) (x : Content) (e : Refusal) → ContentCase v x → HasFault v e → ⊥
no_fault_in v x e (leaf ex (inl (ec, h))) (ec', mapped, no_list, f) = never_both_ber _ _ _ x e h f
no_fault_in v x e (leaf ex (inr h)) (ec', mapped, no_list, f) = mapped_not_kept _ _ _ _ x ec' mapped h
no_fault_in v x e (list ec m h) (ec', mapped, no_list, f) = false≢true (sym no_list ∙ m)

pub value_or_fault : ValueOrFault
value_or_fault v x e h f = no_fault_in v x e (content_case v x h) f

abbrev is_listed : Content → Bool
is_listed (sequence l) = true
is_listed (set l) = true
is_listed _ = false

-- what a node shows, by whether it has items
data ShownCase (v : View) (x : Content) : Type 0 where
  no_items : is_listed x ≡ false → without_items x ≡ x → ShownCase v x
  sequence_of : (l : Nodes) → x ≡ sequence l → ShowItems (trees v.input v.inside) l → ShownCase v x
  set_of : (l : Nodes) → x ≡ set l → ShowItems (trees v.input v.inside) l → ShownCase v x

shown_case : (v : View) (x : Content) → ShowsContent v x → ShownCase v x
shown_case v (sequence l) h = sequence_of l refl h.1
shown_case v (set l) h = set_of l refl h.1
shown_case v _ h = no_items refl refl

has_content : (v : View) (x : Content) → ShowsContent v x → HasContent v x
has_content v (sequence l) h = h.0
has_content v (set l) h = h.0
has_content v _ h = h.0

sequence_not_set : sequence no_nodes ≡ set no_nodes → ⊥
sequence_not_set e = absurd cc

mutual
  tree_once : (v : View) (o o' : Node) → ShowsTree v o → ShowsTree v o' → o ≡ o'
  tree_once v (node c p t x) (node c' p' t' x') (ec, ep, et, h) (ec', ep', et', h') =
      let one = one_value v x x' (has_content v x h) (has_content v x' h') in
      let ex = content_once v x x' h one (shown_case v x' h') in
      let dc = sym ec ∙ ec' in
      let dp = sym ep ∙ ep' in
      let dt = sym et ∙ et' in
      cc

  content_once : (v : View) (x y : Content) → ShowsContent v x → without_items x ≡ without_items y → ShownCase v y → x ≡ y
  content_once v (sequence l) y h e (no_items k q) = absurd (false≢true (sym k ∙ sym (ap is_listed (e ∙ q))))
  content_once v (sequence l) y h e (sequence_of l' q k) = ap sequence (items_once (trees v.input v.inside) l l' h.1 k) ∙ sym q
  content_once v (sequence l) y h e (set_of l' q k) = absurd (sequence_not_set (e ∙ ap without_items q))
  content_once v (set l) y h e (no_items k q) = absurd (false≢true (sym k ∙ sym (ap is_listed (e ∙ q))))
  content_once v (set l) y h e (sequence_of l' q k) = absurd (sequence_not_set (sym (e ∙ ap without_items q)))
  content_once v (set l) y h e (set_of l' q k) = ap set (items_once (trees v.input v.inside) l l' h.1 k) ∙ sym q
  content_once v _ y h e (no_items k q) = e ∙ q
  content_once v _ y h e (sequence_of l' q k) = absurd (false≢true (ap is_listed (e ∙ ap without_items q)))
  content_once v _ y h e (set_of l' q k) = absurd (false≢true (ap is_listed (e ∙ ap without_items q)))

  pub items_once : (vs : List View) (l l' : Nodes) → ShowItems vs l → ShowItems vs l' → l ≡ l'
  items_once [] no_nodes no_nodes h h' = refl
  items_once [] no_nodes (nodes o l) h h' = absurd h'
  items_once [] (nodes o l) l' h h' = absurd h
  items_once (v ∷ vs) no_nodes l' h h' = absurd h
  items_once (v ∷ vs) (nodes o l) no_nodes h h' = absurd h'
  items_once (v ∷ vs) (nodes o l) (nodes o' l') h h' =
      let a = tree_once v o o' h.0 h'.0 in
      let b = items_once vs l l' h.1 h'.1 in
      cc

pub one_tree : OneTree
one_tree = tree_once
