-- A BER spelling in front of the input, a refusal that it shows, and its end within an element: one of them holds at most, and each in one way.
use Rattle.std.proofs.Common.{◌≡◌, ℕ, zero, suc, ◌-◌, ◌≤◌, Bool, true, false, IsTrue, ◌==◌, List, [], ◌++◌, length, refl, sym, ap, subst, ◌∙◌, arith, ◌⊎◌, inl, inr, append-nil}
use Rattle.std.proofs.lemmas.Bool.Decides.{Decides-eqb}
use Rattle.der_base.specs.declared.header.Class.{Class}
use Rattle.der_base.specs.declared.header.Class.TheVariants.{Universal}
use Rattle.der_base.specs.declared.error.Needed.TheVariants.{Size}
use Rattle.der_base.specs.Any.{AnyRefuses, AnyLacks}
use Rattle.der_base.specs.Cut.{IsCut, Lacks}
use Rattle.der_base.specs.Fault.{ItemRefuses, ShowsFault, ShowsInside}
use Rattle.der_base.specs.Inner.Framed.{HasContent, JoinSpellings, Spells}
use Rattle.der_base.specs.Leaf.{is_list, is_mapped, IsLeafContent}
use Rattle.der_base.specs.LeafRefusal.{BerLeafRefuses, ber_tests}
use Rattle.der_base.specs.Refusal.{Refusal, incomplete}
use Rattle.der_base.specs.Spelling.{BeginsWithElement, BerSpells, Form, form, Forms, no_forms, forms, IsKept, Joins, framing_budget}
use Rattle.der_base.specs.Tree.{Node, node, Content, end_of_content, boolean, integer, bit_string, string, null}
use Rattle.der_base.specs.Tree.{enumerated, object_identifier, relative_oid, time, sequence, set, Nodes, no_nodes}
use Rattle.der_base.specs.Tree.{nodes}
use Rattle.der_base.proofs.Leaves.Always.{or_cases}
use Rattle.der_base.proofs.Framing.Cuts.{lacks_same}
use Rattle.der_values.proofs.LawsLaws.Spellings.DerFaults.{kept_unmapped}
use Rattle.der_base.proofs.Framing.Elements.{begins_element, element_some}
use Rattle.der_base.proofs.Framing.UniqueSpelling.{begins_same, unique_spelling}
use Rattle.der_base.proofs.Framing.FramingLaws.{any_refusal_same, begins_not_cut, begins_not_refused, framed_begins}
use Rattle.der_base.proofs.Octets.Identifiers.{fronts_same}
use Rattle.der_values.proofs.LawsLaws.Leaves.NeverBoth.{never_both_ber, text_no_list}
use Rattle.der_base.proofs.Leaves.Refusals.{first_refusal_once}
use Rattle.der_base.proofs.Leaves.Always.{each_string}
use Rattle.der_base.proofs.Framing.FramedIsSpelling.{restated, joins_then}
use Rattle.der_base.proofs.Framing.RawLists.{tail_more}
use Rattle.der_values.proofs.LawsLaws.Spellings.DerFaults.{not_primitive}

-- contents

-- a content of no items is none of a list
pub leaf_no_list : (p : Bool) (t : ℕ) (w : List ℕ) (x : Content) → IsLeafContent p t w x → is_list t ≡ false
leaf_no_list p t w end_of_content h = ap is_list h
leaf_no_list p t w (boolean v) h = ap is_list h.0
leaf_no_list p t w (integer v) h = ap is_list h.0
leaf_no_list p t w (bit_string u v) h = ap is_list h.0
leaf_no_list p t w (string k v) h = ap is_list h.0 ∙ each_string (λ k. is_list k ≡ false) p k v h.1 refl refl refl (text_no_list k)
leaf_no_list p t w null h = ap is_list h
leaf_no_list p t w (object_identifier r v) h = ap is_list h.0
leaf_no_list p t w (enumerated n) h = ap is_list h.0
leaf_no_list p t w (relative_oid r v) h = ap is_list h.0
leaf_no_list p t w (time k x) (et, ep, inl (ek, h)) = ap is_list (et ∙ ek)
leaf_no_list p t w (time k x) (et, ep, inr (ek, h)) = ap is_list (et ∙ ek)
leaf_no_list p t w _ h = absurd h

-- a content with items: SEQUENCE and SET
record ListContent (w : List ℕ) (p : Bool) (t : ℕ) (d : ℕ) : Type 0 where
  list : IsTrue (is_list t)
  constructed : p ≡ true
  items : Nodes
  forms : Forms
  joins : JoinSpellings w items forms d

abbrev LeafOrKept : List ℕ → Class → Bool → ℕ → Content → Type 0
LeafOrKept w c p t x = ((c ≡ Universal) × IsLeafContent p t w x) ⊎ IsKept c p t w x

less : (d : ℕ) → suc d - 1 ≡ d
less d = omega arith

-- a content is one of a list, of a leaf, or raw
kind : (w : List ℕ) (c : Class) (p : Bool) (t : ℕ) (x : Content) (fs : Forms) (d : ℕ) → HasContent w c p t x fs (suc d) → ListContent w p t d ⊎ LeafOrKept w c p t x
kind w c p t (sequence l) fs d h = inl (record { list = ap is_list h.1; constructed = h.2; items = l; forms = fs; joins = subst (JoinSpellings w l fs) (less d) h.3 })
kind w c p t (set l) fs d h = inl (record { list = ap is_list h.1; constructed = h.2; items = l; forms = fs; joins = subst (JoinSpellings w l fs) (less d) h.3 })
kind w c p t x fs d h = inr h.1

-- spellings

-- a spelling is an element with the header of its object
record SpelledElement (i rest : List ℕ) (c : Class) (p : Bool) (t : ℕ) (x : Content) (d : ℕ) : Type 0 where
  content : List ℕ
  forms : Forms
  deep : 1 ≤ d
  begins : BeginsWithElement i framing_budget c p t content rest
  has : HasContent content c p t x forms d

element_in_front : (i b rest : List ℕ) (c : Class) (p : Bool) (t : ℕ) (x : Content) (f : Form) (d : ℕ) → i ≡ b ++ rest → Spells b (node c p t x) f d → SpelledElement i rest c p t x d
element_in_front i b rest c p t x (form h fs) d e (hd, w, g, k) =
    record { content = w; forms = fs; deep = hd; begins = subst (λ l. BeginsWithElement l framing_budget c p t w rest) (sym e) (framed_begins rest g); has = k }

spelled_element : (i b rest : List ℕ) (c : Class) (p : Bool) (t : ℕ) (x : Content) (d : ℕ) → i ≡ b ++ rest → BerSpells b (node c p t x) d framing_budget → SpelledElement i rest c p t x d
spelled_element i b rest c p t x d e h = let q = restated b (node c p t x) d h in element_in_front i b rest c p t x q.0 d e q.1

pub spelled_begins : (i b rest : List ℕ) (c : Class) (p : Bool) (t : ℕ) (x : Content) (d : ℕ) → i ≡ b ++ rest → BerSpells b (node c p t x) d framing_budget
    → (w : List ℕ) × BeginsWithElement i framing_budget c p t w rest
spelled_begins i b rest c p t x d e h = let q = spelled_element i b rest c p t x d e h in (q.content, q.begins)

-- so an input that begins with one is not cut short
pub spelled_not_cut : (i b rest : List ℕ) (o : Node) (d : ℕ) → BerSpells b o d framing_budget → i ≡ b ++ rest → IsCut i → ⊥
spelled_not_cut i b rest (node c p t x) d h e k = let q = spelled_element i b rest c p t x d e h in begins_not_cut i framing_budget c p t q.content rest q.begins k

-- and it has an octet
pub spelled_some : (b rest : List ℕ) (o : Node) (d : ℕ) → BerSpells b o d framing_budget → [] ≡ b ++ rest → ⊥
spelled_some b rest (node c p t x) d h e =
    let q = spelled_element [] b rest c p t x d e h in
    let g = begins_element [] framing_budget c p t q.content rest q.begins in
    element_some g.0 framing_budget c p t q.content rest g.2 g.1

-- Spellings at the front of one list are one, of one tree.
pub spelling_same : (b b' x y : List ℕ) (o o' : Node) (d d' : ℕ) → BerSpells b o d framing_budget → BerSpells b' o' d' framing_budget → b ++ x ≡ b' ++ y → (b ≡ b') × (o ≡ o') × (x ≡ y)
spelling_same b b' x y o o' d d' h h' e =
    let q = unique_spelling b b' o o' d d' x y h h' e in
    (q.0, q.1, (fronts_same b b' x y (ap length q.0) e).1)

-- where refusals show

-- in the header and framing, or in the content
shown_where : (d : ℕ) (i : List ℕ) (e : Refusal) → ShowsFault (suc d) i e
    → AnyRefuses i e ⊎ ((p : Bool) × (t : ℕ) × (w rest : List ℕ) × BeginsWithElement i framing_budget Universal p t w rest × IsTrue (is_mapped t) × ShowsInside d p t w e)
shown_where d i e (inl h) = inl (inl h)
shown_where d i e (inr (inl h)) = inl (inr h)
shown_where d i e (inr (inr h)) = inr h

pub any_shows : (d : ℕ) (i : List ℕ) (e : Refusal) → AnyRefuses i e → ShowsFault (suc d) i e
any_shows d i e (inl h) = inl h
any_shows d i e (inr h) = inr (inl h)

-- Where there is an element, a refusal shows in its content.
pub shows_in_content : (d : ℕ) (i rest w : List ℕ) (c : Class) (p : Bool) (t : ℕ) (e : Refusal) → BeginsWithElement i framing_budget c p t w rest → ShowsFault (suc d) i e
    → (c ≡ Universal) × IsTrue (is_mapped t) × ShowsInside d p t w e
shows_in_content d i rest w c p t e g h = at (shown_where d i e h)
  where
    at : AnyRefuses i e ⊎ ((p : Bool) × (t : ℕ) × (w rest : List ℕ) × BeginsWithElement i framing_budget Universal p t w rest × IsTrue (is_mapped t) × ShowsInside d p t w e)
        → (c ≡ Universal) × IsTrue (is_mapped t) × ShowsInside d p t w e
    at (inl r) = absurd (begins_not_refused i c p t w rest e g r)
    at (inr (p', t', w', rest', g', m, h)) =
        let a = begins_same i framing_budget framing_budget c Universal p p' t t' w w' rest rest' g g' in
        (a.0, subst (λ q. IsTrue (is_mapped q)) (sym a.2) m, rw (a.1, a.2, a.3) h)

-- and where one shows in the content, it shows in the element
pub content_shows : (d : ℕ) (i rest w : List ℕ) (c : Class) (p : Bool) (t : ℕ) (e : Refusal) → BeginsWithElement i framing_budget c p t w rest
    → c ≡ Universal → IsTrue (is_mapped t) → ShowsInside d p t w e → ShowsFault (suc d) i e
content_shows d i rest w c p t e g u m h = inr (inr (p, t, w, rest, subst (λ q. BeginsWithElement i framing_budget q p t w rest) u g, m, h))

-- what is cut short and shows no refusal of a header or of framing shows none
pub cut_shows_nothing : (d : ℕ) (i : List ℕ) (n : ℕ) (e : Refusal) → AnyLacks i n → ShowsFault (suc d) i e → ⊥
cut_shows_nothing d i n e l h = elim (shown_where d i e h) [
  | inl r ↦ l.2 e r
  | inr (p, t, w, rest, g, m, h) ↦ begins_not_cut i framing_budget Universal p t w rest g l.0
]

-- one of them, in one way

-- a list that is constructed is not refused as such
pub list_passes : (t : ℕ) (w : List ℕ) (e : Refusal) → IsTrue (is_list t) → BerLeafRefuses true t w e → ⊥
list_passes t w e h = at_list (λ t. BerLeafRefuses true t w e → ⊥) t h not_primitive not_primitive
  where
    at_list : (P : ℕ → Type 0) (t : ℕ) → IsTrue (is_list t) → P 16 → P 17 → P t
    at_list P t h a b = or_cases (t == 16) (t == 17) (P t) h (λ e. subst P (sym ((Decides-eqb t 16).0 e)) a) (λ e. subst P (sym ((Decides-eqb t 17).0 e)) b)

-- no item begins here
abbrev Stops : ℕ → List ℕ → Type 0
Stops d r = (b rest : List ℕ) (o : Node) → r ≡ b ++ rest → BerSpells b o d framing_budget → ⊥

-- items in front of a list that none follows are one list of items
pub joins_same : (d : ℕ) (l l' : Nodes) (fs fs' : Forms) (u u' r r' : List ℕ) → Stops d r → Stops d r' → Joins u l fs d framing_budget → Joins u' l' fs' d framing_budget
    → u ++ r ≡ u' ++ r' → (l ≡ l') × (r ≡ r')
joins_same d no_nodes l' (forms f fs) fs' u u' r r' s s' j j' e = absurd j
joins_same d (nodes o l) l' no_forms fs' u u' r r' s s' j j' e = absurd j
joins_same d l no_nodes fs (forms f' fs') u u' r r' s s' j j' e = absurd j'
joins_same d l (nodes o' l') fs no_forms u u' r r' s s' j j' e = absurd j'
joins_same d no_nodes no_nodes no_forms no_forms u u' r r' s s' j j' e = (refl, ap (λ x. x ++ r) (sym j) ∙ e ∙ ap (λ x. x ++ r') j')
joins_same d no_nodes (nodes o' l') no_forms (forms f' fs') u u' r r' s s' j (b', rest', q', h', j') e =
    absurd (s b' (rest' ++ r') o' (ap (λ x. x ++ r) (sym j) ∙ e ∙ tail_more b' rest' u' r' q') (f', h'))
joins_same d (nodes o l) no_nodes (forms f fs) no_forms u u' r r' s s' (b, rest, q, h, j) j' e =
    absurd (s' b (rest ++ r) o (ap (λ x. x ++ r') (sym j') ∙ sym e ∙ tail_more b rest u r q) (f, h))
joins_same d (nodes o l) (nodes o' l') (forms f fs) (forms f' fs') u u' r r' s s' (b, rest, q, h, j) (b', rest', q', h', j') e =
    let a = spelling_same b b' (rest ++ r) (rest' ++ r') o o' d d (f, h) (f', h') (sym (tail_more b rest u r q) ∙ e ∙ tail_more b' rest' u' r' q') in
    let z = joins_same d l l' fs fs' rest rest' r r' s s' j j' a.2 in
    (ap (λ x. nodes x l) a.1 ∙ ap (nodes o') z.0, z.1)

-- what begins with a spelling that is read shows no refusal
abbrev ShowNothing : ℕ → Type 0
ShowNothing d = (i b rest : List ℕ) (o : Node) (e : Refusal) → i ≡ b ++ rest → BerSpells b o d framing_budget → ShowsFault d i e → ⊥

item_stops : (d : ℕ) (r : List ℕ) (e : Refusal) → ShowNothing d → ItemRefuses (ShowsFault d) Lacks r e → Stops d r
item_stops d r e f (n, inl h) b rest o q s = f r b rest o e q s h
item_stops d r e f (n, inr (m, c, h, z, y)) b rest o q s = spelled_not_cut r b rest o d s q c

none_stops : (d : ℕ) → Stops d []
none_stops d b rest o q s = spelled_some b rest o d s q

nothing_inside : (d : ℕ) (w : List ℕ) (c : Class) (p : Bool) (t : ℕ) (x : Content) (fs : Forms) (e : Refusal) → ShowNothing d → c ≡ Universal → HasContent w c p t x fs (suc d)
    → IsTrue (is_mapped t) → ShowsInside d p t w e → ⊥
nothing_inside d w c p t x fs e f u h m q = at (kind w c p t x fs d h) q
  where
    at : ListContent w p t d ⊎ LeafOrKept w c p t x → ShowsInside d p t w e → ⊥
    at (inl g) (inl q) = list_passes t w e g.list (subst (λ b. BerLeafRefuses b t w e) g.constructed q)
    at (inl g) (inr (hl, hp, l', fs', v, r, o, j, y)) =
        y.0 (sym (joins_same d g.items l' g.forms fs' w v [] r (none_stops d) (item_stops d r e f y) (joins_then g.items w g.forms d g.joins) j (append-nil w ∙ o)).1)
    at (inr (inl (a, y))) (inl q) = never_both_ber p t w x e y q
    at (inr (inl (a, y))) (inr z) = let n = sym (leaf_no_list p t w x y) ∙ z.0 in cc
    at (inr (inr y)) z = let a = sym (kept_unmapped c p t w x y u) ∙ m in cc

pub spelled_shows_nothing : (d : ℕ) (i b rest : List ℕ) (o : Node) (e : Refusal) → i ≡ b ++ rest → BerSpells b o d framing_budget → ShowsFault d i e → ⊥
spelled_shows_nothing zero i b rest (node c p t x) e q h s = omega (arith, (spelled_element i b rest c p t x zero q h).deep)
spelled_shows_nothing (suc d) i b rest (node c p t x) e q h s =
    let g = spelled_element i b rest c p t x (suc d) q h in
    let z = shows_in_content d i rest g.content c p t e g.begins s in
    nothing_inside d g.content c p t x g.forms e (spelled_shows_nothing d) z.0 g.has z.1 z.2

-- one refusal shows
abbrev ShowOne : ℕ → Type 0
ShowOne d = (i : List ℕ) (e e' : Refusal) → ShowsFault d i e → ShowsFault d i e' → e ≡ e'

item_one : (d : ℕ) (r : List ℕ) (e e' : Refusal) → ShowOne d → ItemRefuses (ShowsFault d) Lacks r e → ItemRefuses (ShowsFault d) Lacks r e' → e ≡ e'
item_one d r e e' f (n, inl h) (n', inl h') = f r e e' h h'
item_one d r e e' f (n, inl h) (n', inr (m', c', a', z', q')) = absurd (z' e h)
item_one d r e e' f (n, inr (m, c, a, z, q)) (n', inl h') = absurd (z e' h')
item_one d r e e' f (n, inr (m, c, a, z, q)) (n', inr (m', c', a', z', q')) = q ∙ ap (λ k. incomplete (Size k)) (lacks_same a a' refl) ∙ sym q'

inside_one : (d : ℕ) (p : Bool) (t : ℕ) (w : List ℕ) (e e' : Refusal) → ShowOne d → ShowsInside d p t w e → ShowsInside d p t w e' → e ≡ e'
inside_one d p t w e e' f (inl h) (inl h') = first_refusal_once (ber_tests p t w) e e' h h'
inside_one d p t w e e' f (inl h) (inr h') = absurd (list_passes t w e h'.0 (subst (λ b. BerLeafRefuses b t w e) h'.1 h))
inside_one d p t w e e' f (inr h) (inl h') = absurd (list_passes t w e' h.0 (subst (λ b. BerLeafRefuses b t w e') h.1 h'))
inside_one d p t w e e' f (inr (hl, hp, l, fs, u, r, o, j, y)) (inr (hl', hp', l', fs', u', r', o', j', y')) =
    let n = spelled_shows_nothing d in
    let q = joins_same d l l' fs fs' u u' r r' (item_stops d r e n y) (item_stops d r' e' n y') j j' (sym o ∙ o') in
    item_one d r e e' f y (subst (λ x. ItemRefuses (ShowsFault d) Lacks x e') (sym q.1) y')

pub shows_one : (d : ℕ) (i : List ℕ) (e e' : Refusal) → ShowsFault d i e → ShowsFault d i e' → e ≡ e'
shows_one zero i e e' h h' = h ∙ sym h'
shows_one (suc d) i e e' h h' = elim (shown_where d i e h) [
  | inl r ↦ (elim (shown_where d i e' h') [ inl r' ↦ any_refusal_same i e e' r r' | inr (p, t, w, rest, g, m, k) ↦ absurd (begins_not_refused i Universal p t w rest e g r) ])
  | inr (p, t, w, rest, g, m, k) ↦ inside_one d p t w e e' (shows_one d) k (shows_in_content d i rest w Universal p t e' g h').2
]
