-- A spelling has one tree.
use Rattle.std.proofs.Common.{◌≡◌, ℕ, ◌-◌, Bool, true, false, cond, ◌||◌, ◌==◌, not, pos, List, [], ◌∷◌, ◌++◌, refl, sym, ap, subst, ◌∙◌, arith, ◌⊎◌, inl, inr, true≢false}
use Rattle.der_base.specs.declared.header.Class.{Class}
use Rattle.der_base.specs.declared.header.Class.TheVariants.{Universal, Application, ContextSpecific, Private}
use Rattle.der_base.specs.declared.time.ASN1DateTime.{ASN1DateTime}
use Rattle.der_base.specs.Text.{is_one_of, is_text_type}
use Rattle.der_base.specs.Time.{IsTimeText}
use Rattle.der_base.specs.Tree.{Node, node, Content, end_of_content, boolean, integer, bit_string, string, null}
use Rattle.der_base.specs.Tree.{enumerated, object_identifier, relative_oid, time, sequence, set, absent, present}
use Rattle.der_base.specs.Tree.{tagged, unknown, Nodes, no_nodes, nodes}
use Rattle.der_base.specs.Leaf.{is_mapped, is_time, IsLeafContent}
use Rattle.der_base.specs.Spelling.{IsKept, framing_budget, Form, form, Forms, no_forms, forms, BerSpellsAs, BerSpells, IsContent, IsOpenContent, Joins, OpenJoins}
use Rattle.der_base.proofs.Leaves.Always.{each_string}
use Rattle.der_base.proofs.Octets.Identifiers.{head_same}
use Rattle.der_base.proofs.Framing.Elements.{IsElement, element_same, element_some}
use Rattle.der_base.proofs.Framing.BudgetIndependence.{open_element}

-- a number for each kind of content
type_of : Content → ℕ
type_of end_of_content = 0
type_of (boolean b) = 1
type_of (integer w) = 2
type_of (bit_string u w) = 3
type_of null = 5
type_of (object_identifier r w) = 6
type_of (enumerated n) = 10
type_of (relative_oid r w) = 13
type_of (sequence l) = 16
type_of (set l) = 17
type_of (string k w) = 100
type_of (time k t) = 101
type_of (unknown c p t w) = 102
type_of absent = 103
type_of (present o) = 104
type_of (tagged c t o) = 105

-- the kind of a type that is no text and no time
of_type : ℕ → ℕ
of_type t = cond (is_one_of (4 ∷ 28 ∷ 30 ∷ []) t) 100 t

-- the kind of the content under a header
sort : Class → ℕ → ℕ
sort Universal t = cond (is_text_type t) 100 (cond (is_time t) 101 (cond (is_mapped t) (of_type t) 102))
sort _ t = 102

or_left : (a b : Bool) → a || b ≡ false → a ≡ false
or_left true b e = e
or_left false b e = refl

or_right : (a b : Bool) → a || b ≡ false → b ≡ false
or_right true b e = absurd (true≢false e)
or_right false b e = e

kept_sort : (c : Class) (t : ℕ) → (c ≡ Universal → is_mapped t ≡ false) → sort c t ≡ 102
unfolding sort
kept_sort Universal t f =
    let m = f refl in
    let a : is_text_type t ≡ false = grind (arith, or_left, or_right, m) in
    let b : is_time t ≡ false = grind (arith, or_left, or_right, m) in
    ap (λ x. cond x 100 (cond (is_time t) 101 (cond (is_mapped t) (of_type t) 102))) a ∙ ap (λ x. cond x 101 (cond (is_mapped t) (of_type t) 102)) b ∙ ap (λ x. cond x (of_type t) 102) m
kept_sort Application t f = refl
kept_sort ContextSpecific t f = refl
kept_sort Private t f = refl

leaf_sort : (p : Bool) (t : ℕ) (w : List ℕ) (x : Content) → IsLeafContent p t w x → sort Universal t ≡ type_of x
unfolding sort of_type type_of
leaf_sort p t w end_of_content h = ap (λ n. sort Universal n) h
leaf_sort p t w (boolean v) h = ap (λ n. sort Universal n) h.0
leaf_sort p t w (integer v) h = ap (λ n. sort Universal n) h.0
leaf_sort p t w (bit_string u v) h = ap (λ n. sort Universal n) h.0
leaf_sort p t w (string k v) h =
    ap (λ n. sort Universal n) h.0
    ∙ each_string (λ k. sort Universal k ≡ 100) p k v h.1 refl refl refl (λ s. ap (λ b. cond b 100 (cond (is_time k) 101 (cond (is_mapped k) (of_type k) 102))) s)
leaf_sort p t w null h = ap (λ n. sort Universal n) h
leaf_sort p t w (object_identifier r v) h = ap (λ n. sort Universal n) h.0
leaf_sort p t w (enumerated n) h = ap (λ n. sort Universal n) h.0
leaf_sort p t w (relative_oid r v) h = ap (λ n. sort Universal n) h.0
leaf_sort p t w (time k x) (et, ep, inl (ek, h)) = ap (λ n. sort Universal n) (et ∙ ek)
leaf_sort p t w (time k x) (et, ep, inr (ek, h)) = ap (λ n. sort Universal n) (et ∙ ek)
leaf_sort p t w _ h = absurd h

kept_type : (w : List ℕ) (c : Class) (p : Bool) (t : ℕ) (x : Content) → IsKept c p t w x → sort c t ≡ type_of x
unfolding type_of
kept_type w c p t (unknown c' p' t' v) h = kept_sort c t h.4
kept_type w c p t _ h = absurd h

flat_sort : (w : List ℕ) (c : Class) (p : Bool) (t : ℕ) (x : Content) → ((c ≡ Universal) × IsLeafContent p t w x) ⊎ IsKept c p t w x → sort c t ≡ type_of x
flat_sort w c p t x (inl (ec, h)) = ap (λ k. sort k t) ec ∙ leaf_sort p t w x h
flat_sort w c p t x (inr h) = kept_type w c p t x h

content_sort : (w : List ℕ) (c : Class) (p : Bool) (t : ℕ) (x : Content) (fs : Forms) (d k : ℕ) → IsContent w c p t x fs d k → sort c t ≡ type_of x
unfolding sort of_type type_of
content_sort w c p t (sequence l) fs d k h = ap (λ k. sort k t) h.0 ∙ ap (λ n. sort Universal n) h.1
content_sort w c p t (set l) fs d k h = ap (λ k. sort k t) h.0 ∙ ap (λ n. sort Universal n) h.1
content_sort w c p t x fs d k h = flat_sort w c p t x h.1

leaf : {A B : Type 0} → (A × B) ⊎ ⊥ → B
leaf (inl h) = h.1
leaf (inr h) = absurd h

-- contents of the time types are read in one way
abbrev pub TimesSame : Type 0
TimesSame = (k : ℕ) (w : List ℕ) (t t' : ASN1DateTime) → IsTimeText k w t → IsTimeText k w t' → t ≡ t'

items_closed : (l : Nodes) (w : List ℕ) (fs : Forms) (d k : ℕ) → OpenJoins w l fs d k → Joins w l fs d k
items_closed no_nodes w no_forms d k h = h
items_closed no_nodes w (forms f fs) d k h = absurd h
items_closed (nodes o l) w no_forms d k h = absurd h
items_closed (nodes o l) w (forms f fs) d k (b, rest, e, n, hb, hr) = (b, rest, e, hb, items_closed l rest fs d k hr)

pub closed : (x : Content) (w : List ℕ) (c : Class) (t : ℕ) (fs : Forms) (d k : ℕ) → IsOpenContent w c t x fs d k → IsContent w c true t x fs d k
closed (sequence l) w c t fs d k (ec, et, j) = (ec, et, refl, items_closed l w fs (d - 1) k j)
closed (set l) w c t fs d k (ec, et, j) = (ec, et, refl, items_closed l w fs (d - 1) k j)
closed _ w c t fs d k (ef, hr, hx) = (ef, hx)

-- a spelling is an element whose content is the object's
abbrev IsFramed : List ℕ → Class → Bool → ℕ → Content → Forms → ℕ → ℕ → Type 0
IsFramed b c p t x fs d k = (w : List ℕ) × (m : ℕ) × IsElement b k c p t w × IsContent w c p t x fs d m

framed : (b : List ℕ) (c : Class) (p : Bool) (t : ℕ) (x : Content) (f : Form) (d k : ℕ) → BerSpellsAs b (node c p t x) f d k → (fs : Forms) × IsFramed b c p t x fs d k
framed b c p t x (form h fs) d k (ht, hd, hk, inl (s, w, eh, hs, e, hc)) = (fs, (w, framing_budget, (ht, hk, inl (s, hs, e)), hc))
framed b c p t x (form h fs) d k (ht, hd, hk, inr (w, eh, ep, h2, e, ho)) =
    (fs, (w, k - 1, open_element x b c p t w fs d k ht h2 ep e ho, subst (λ q. IsContent w c q t x fs d (k - 1)) (sym ep) (closed x w c t fs d (k - 1) ho)))

content_moved : {w w' : List ℕ} {c c' : Class} {p p' : Bool} {t t' : ℕ} (x : Content) (fs : Forms) (d k : ℕ) → w ≡ w' → c ≡ c' → p ≡ p' → t ≡ t' → IsContent w c p t x fs d k
    → IsContent w' c' p' t' x fs d k
content_moved {w = w} {w' = w'} {c = c} {c' = c'} {p = p} {p' = p'} {t = t} x fs d k ew ec ep et h =
    subst (λ l. IsContent w' c' p' l x fs d k) et (subst (λ l. IsContent w' c' l t x fs d k) ep (subst (λ l. IsContent w' l p t x fs d k) ec (subst (λ l. IsContent l c p t x fs d k) ew h)))

kept : {A : Type 0} {B C D E F : Type 0} → (A × ⊥) ⊎ (B × C × D × E × F) → B × C × D × E × F
kept (inl h) = absurd h.1
kept (inr h) = h

node_some : (o : Node) (b x : List ℕ) (f : Form) (d k : ℕ) → BerSpellsAs b o f d k → [] ≡ b ++ x → ⊥
node_some (node c p t v) b x f d k h e = let g = framed b c p t v f d k h in element_some b k c p t g.1.0 x g.1.2 e

module _ (times : TimesSame) where
  mutual
    unfolding type_of

    -- spellings at the front of one list are one, of one object
    pub node_same : (o o' : Node) (b b' x y : List ℕ) (f f' : Form) (d d' k k' : ℕ) → BerSpellsAs b o f d k → BerSpellsAs b' o' f' d' k' → b ++ x ≡ b' ++ y → (b ≡ b') × (o ≡ o') × (x ≡ y)
    node_same (node c p t v) (node c' p' t' v') b b' x y f f' d d' k k' h h' e =
        let g = framed b c p t v f d k h in
        let g' = framed b' c' p' t' v' f' d' k' h' in
        let q = element_same b b' k k' c c' p p' t t' g.1.0 g'.1.0 x y g.1.2 g'.1.2 e in
        let r = content_same v v' g'.1.0 c' p' t' g.0 g'.0 d d' g.1.1 g'.1.1 (content_moved v g.0 d g.1.1 q.content q.class q.constructed q.number g.1.3) g'.1.3 in
        let a = q.class in
        let b = q.constructed in
        let c = q.number in
        (q.octets, cc, q.rest)

    pub content_same : (v v' : Content) (w : List ℕ) (c : Class) (p : Bool) (t : ℕ) (fs fs' : Forms) (d d' k k' : ℕ) → IsContent w c p t v fs d k → IsContent w c p t v' fs' d' k' → v ≡ v'
    content_same (sequence l) (sequence l') w c p t fs fs' d d' k k' h h' = ap sequence (items_same l l' w fs fs' (d - 1) (d' - 1) k k' h.3 h'.3)
    content_same (set l) (set l') w c p t fs fs' d d' k k' h h' = ap set (items_same l l' w fs fs' (d - 1) (d' - 1) k k' h.3 h'.3)
    content_same end_of_content end_of_content w c p t fs fs' d d' k k' h h' = refl
    content_same (boolean a) (boolean a') w c p t fs fs' d d' k k' h h' =
        let i = leaf h.1 in
        let j = leaf h'.1 in
        let z = (head_same (sym i.3 ∙ j.3)).0 in
        ap boolean (i.4 ∙ ap (λ b. not (b == 0)) z ∙ sym j.4)
    content_same (integer a) (integer a') w c p t fs fs' d d' k k' h h' = ap integer (sym (leaf h.1).1 ∙ (leaf h'.1).1)
    content_same (bit_string u a) (bit_string u' a') w c p t fs fs' d d' k k' h h' =
        let z = head_same (sym (leaf h.1).2 ∙ (leaf h'.1).2) in cc
    content_same (string n a) (string n' a') w c p t fs fs' d d' k k' h h' =
        let i = leaf h.1 in
        let j = leaf h'.1 in
        cc
    content_same null null w c p t fs fs' d d' k k' h h' = refl
    content_same (object_identifier r a) (object_identifier r' a') w c p t fs fs' d d' k k' h h' =
        let i = leaf h.1 in
        let j = leaf h'.1 in
        cc
    content_same (enumerated n) (enumerated n') w c p t fs fs' d d' k k' h h' =
        let z : pos n ≡ pos n' = sym (leaf h.1).3 ∙ (leaf h'.1).3 in cc
    content_same (relative_oid r a) (relative_oid r' a') w c p t fs fs' d d' k k' h h' =
        let i = leaf h.1 in
        let j = leaf h'.1 in
        cc
    content_same (time n a) (time n' a') w c p t fs fs' d d' k k' h h' =
        let i = leaf h.1 in
        let j = leaf h'.1 in
        let m = sym i.0 ∙ j.0 in
        let z = times n' w a a' (subst (λ q. IsTimeText q w a) m i.2) j.2 in cc
    content_same absent absent w c p t fs fs' d d' k k' h h' = refl
    content_same (present o) (present o') w c p t fs fs' d d' k k' h h' = absurd (leaf h.1)
    content_same (tagged n m o) (tagged n' m' o') w c p t fs fs' d d' k k' h h' = absurd (leaf h.1)
    content_same (unknown n q m a) (unknown n' q' m' a') w c p t fs fs' d d' k k' h h' =
        let i = kept h.1 in
        let j = kept h'.1 in
        cc
    content_same v v' w c p t fs fs' d d' k k' h h' = absurd (omega (arith, content_sort w c p t v fs d k h, content_sort w c p t v' fs' d' k' h'))

    pub items_same : (l l' : Nodes) (w : List ℕ) (fs fs' : Forms) (d d' k k' : ℕ) → Joins w l fs d k → Joins w l' fs' d' k' → l ≡ l'
    items_same no_nodes no_nodes w fs fs' d d' k k' h h' = refl
    items_same no_nodes (nodes o' l') w no_forms (forms f' fs') d d' k k' h (b', rest', e', hb', hr') = absurd (node_some o' b' rest' f' d' k' hb' (sym h ∙ e'))
    items_same (nodes o l) no_nodes w (forms f fs) no_forms d d' k k' (b, rest, e, hb, hr) h' = absurd (node_some o b rest f d k hb (sym h' ∙ e))
    items_same (nodes o l) (nodes o' l') w (forms f fs) (forms f' fs') d d' k k' (b, rest, e, hb, hr) (b', rest', e', hb', hr') =
        let q = node_same o o' b b' rest rest' f f' d d' k k' hb hb' (sym e ∙ e') in
        let r = items_same l l' rest' fs fs' d d' k k' (subst (λ u. Joins u l fs d k) q.2 hr) hr' in
        let i = q.1 in cc
    items_same no_nodes (nodes o' l') w (forms f fs) fs' d d' k k' h h' = absurd h
    items_same no_nodes (nodes o' l') w no_forms no_forms d d' k k' h h' = absurd h'
    items_same (nodes o l) l' w no_forms fs' d d' k k' h h' = absurd h
    items_same (nodes o l) no_nodes w (forms f fs) (forms f' fs') d d' k k' h h' = absurd h'
    items_same (nodes o l) (nodes o' l') w (forms f fs) no_forms d d' k k' h h' = absurd h'

  -- a spelling has one tree, and ends where it ends
  pub spelling_same : (b b' : List ℕ) (o o' : Node) (d d' : ℕ) (x y : List ℕ) → BerSpells b o d framing_budget → BerSpells b' o' d' framing_budget → b ++ x ≡ b' ++ y → (b ≡ b') × (o ≡ o')
  spelling_same b b' o o' d d' x y (f, h) (f', h') e = let q = node_same o o' b b' x y f f' d d' framing_budget framing_budget h h' e in (q.0, q.1)
