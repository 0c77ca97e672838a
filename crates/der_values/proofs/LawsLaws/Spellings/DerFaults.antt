-- A DER spelling in front of the input, a refusal that it shows, and its end within an element: one of them holds at most, and each in one way.
use Rattle.std.proofs.Common.{◌≡◌, ℕ, zero, suc, ◌<◌, ◌≤◌, Bool, true, false, IsTrue, List, [], ◌++◌, length, refl, sym}
use Rattle.std.proofs.Common.{ap, subst, ◌∙◌, arith, append_assoc, length-append, ◌⊎◌, inl, inr, append-nil}
use Rattle.der_base.specs.declared.header.Class.{Class}
use Rattle.der_base.specs.declared.header.Class.TheVariants.{Universal}
use Rattle.der_base.specs.declared.error.Needed.TheVariants.{Size}
use Rattle.der_base.specs.Cut.{DerLacks}
use Rattle.der_base.specs.Encoding.{encodings, content_octets}
use Rattle.der_base.specs.Fault.{DerHeaderRefuses, ItemRefuses, DerJoins, DerShowsFault, DerShowsInside}
use Rattle.der_base.specs.Headers.{BeginsWithDerHeader, DerHeaderLacks}
use Rattle.der_base.specs.Leaf.{is_list, is_mapped, IsDerLeaf}
use Rattle.der_base.specs.LeafRefusal.{Test, IsFirstRefusal, choose, DerLeafRefuses, der_tests}
use Rattle.der_base.specs.Octets.{identifier, shortest_length}
use Rattle.der_base.specs.Refusal.{Refusal, invalid_length, construct_expected, incomplete}
use Rattle.der_base.specs.Spelling.{IsKept, IsDerContent, AreDerValid, DerSpells, max_object_size}
use Rattle.der_base.specs.Tree.{Node, node, Content, sequence, set, unknown, Nodes, no_nodes, nodes, content_height, list_height}
use Rattle.der_values.proofs.LawsLaws.Leaves.AlwaysDer.{leaf_mapped}
use Rattle.der_base.proofs.Headers.DerHeaders.{der_header_same, der_header_not_refused, der_header_not_lacking, der_header_refusal_same}
use Rattle.der_values.proofs.LawsLaws.Spellings.DerLacking.{der_lacks_same}
use Rattle.der_values.proofs.LawsLaws.Spellings.DerWithinBer.{content_tall, element_header, der_spelling_same, der_spelled_header, der_spelled_some, der_spelled_not_cut, encodings_join}
use Rattle.der_values.proofs.LawsLaws.Leaves.FirstLeaves.{der_leaf_accepted, first_refusal_same}
use Rattle.der_base.proofs.Octets.Identifiers.{fronts_same}
use Rattle.der_values.proofs.LawsLaws.Leaves.NeverBoth.{never_both_der}
use Rattle.der_base.proofs.Framing.RawLists.{tail_more}

-- contents

-- a tree that is written with items: SEQUENCE and SET
record ListContent (c : Class) (p : Bool) (t : ℕ) (x : Content) (l : Nodes) : Type 0 where
  class : c ≡ Universal
  list : IsTrue (is_list t)
  constructed : p ≡ true
  valid : AreDerValid l
  octets : content_octets x ≡ encodings l
  height : content_height x ≡ suc (list_height l)

abbrev LeafOrKept : Class → Bool → ℕ → Content → Type 0
LeafOrKept c p t x = ((c ≡ Universal) × (p ≡ false) × IsDerLeaf t x) ⊎ IsKept c p t (content_octets x) x

-- a content is one of a list, of a leaf, or raw
kind : (c : Class) (p : Bool) (t : ℕ) (x : Content) → IsDerContent c p t x → ((l : Nodes) × ListContent c p t x l) ⊎ LeafOrKept c p t x
kind c p t (sequence l) h = inl (l, record { class = h.0; list = ap is_list h.1; constructed = h.2; valid = h.3; octets = refl; height = refl })
kind c p t (set l) h = inl (l, record { class = h.0; list = ap is_list h.1; constructed = h.2; valid = h.3; octets = refl; height = refl })
kind c p t x h = inr h

pub kept_unmapped : (c : Class) (p : Bool) (t : ℕ) (w : List ℕ) (x : Content) → IsKept c p t w x → c ≡ Universal → is_mapped t ≡ false
kept_unmapped c p t w (unknown c' p' t' v) h u = h.4 u
kept_unmapped c p t w _ h u = absurd h

chosen_refuses : (b : Bool) (ts us : List Test) (e : Refusal) → b ≡ true → IsFirstRefusal ts e → IsFirstRefusal (choose b ts us) e
chosen_refuses true ts us e q h = h
chosen_refuses false ts us e q h = cc

-- a leaf is no list
leaf_no_list : (t : ℕ) (x : Content) → IsDerLeaf t x → IsTrue (is_list t) → ⊥
leaf_no_list t x h l = never_both_der t x construct_expected h (leaf_mapped false t (content_octets x) x h.0, chosen_refuses (is_list t) _ _ construct_expected l (inl (refl, refl)))

-- where refusals show

-- behind a header of length n
abbrev pub DerShowsBehind : ℕ → Class → Bool → ℕ → ℕ → List ℕ → Refusal → Type 0
DerShowsBehind d c p t n rest e = ((max_object_size < n) × (e ≡ invalid_length))
    ⊎ ((n ≤ max_object_size) × (c ≡ Universal) × IsTrue (is_mapped t) × (w r : List ℕ) × (rest ≡ w ++ r) × (length w ≡ n) × DerShowsInside d p t w e)

-- in a header
pub header_shows : (d : ℕ) (i : List ℕ) (e : Refusal) → DerHeaderRefuses i e → DerShowsFault (suc d) i e
header_shows d i e h = inl h

-- behind it
pub behind_shows : (d : ℕ) (i rest : List ℕ) (c : Class) (p : Bool) (t n : ℕ) (e : Refusal) → BeginsWithDerHeader i c p t n rest → DerShowsBehind d c p t n rest e → DerShowsFault (suc d) i e
behind_shows d i rest c p t n e b (inl h) = inr (inl (c, p, t, n, rest, b.number, b.octets, b.length, h.0, h.1))
behind_shows d i rest c p t n e b (inr (s, u, m, w, r, o, l, h)) =
    let x = b.octets ∙ ap (λ q. identifier q p t ++ shortest_length n ++ rest) u ∙ ap (λ q. identifier Universal p t ++ shortest_length q ++ rest) (sym l)
    ∙ ap (λ q. identifier Universal p t ++ shortest_length (length w) ++ q) o ∙ sym (append_assoc (identifier Universal p t ++ shortest_length (length w)) w r) in
    inr (inr (p, t, w, r, b.number, x, omega (arith, s, l), m, h))

-- in the size
pub size_shows : (d : ℕ) (i rest : List ℕ) (c : Class) (p : Bool) (t n : ℕ) → BeginsWithDerHeader i c p t n rest → max_object_size < n → DerShowsFault (suc d) i invalid_length
size_shows d i rest c p t n b h = behind_shows d i rest c p t n invalid_length b (inl (h, refl))

-- in content octets that are there
pub content_shows : (d : ℕ) (i rest w r : List ℕ) (p : Bool) (t n : ℕ) (e : Refusal) → BeginsWithDerHeader i Universal p t n rest → n ≤ max_object_size → IsTrue (is_mapped t)
    → rest ≡ w ++ r → length w ≡ n → DerLeafRefuses p t w e → DerShowsFault (suc d) i e
content_shows d i rest w r p t n e b s m o l h = behind_shows d i rest Universal p t n e b (inr (s, refl, m, w, r, o, l, inl h))

-- Where there is a header, a refusal shows behind it.
pub shows_behind : (d : ℕ) (i rest : List ℕ) (c : Class) (p : Bool) (t n : ℕ) (e : Refusal) → BeginsWithDerHeader i c p t n rest → DerShowsFault (suc d) i e → DerShowsBehind d c p t n rest e
shows_behind d i rest c p t n e b (inl h) = absurd (der_header_not_refused i rest c p t n e b h)
shows_behind d i rest c p t n e b (inr (inl (c', p', t', n', r, ht, o, hn, s, h))) =
    let a = der_header_same i rest r c c' p p' t t' n n' b (record { octets = o; number = ht; length = hn }) in
    inl (omega (arith, s, a.length), h)
shows_behind d i rest c p t n e b (inr (inr (p', t', w, r, ht, o, s, m, h))) =
    let a = der_header_same i rest (w ++ r) c Universal p p' t t' n (length w) b (element_header i w r Universal p' t' ht o s) in
    inr (omega (arith, s, a.length), a.class, subst (λ q. IsTrue (is_mapped q)) (sym a.number) m, w, r, a.rest, sym a.length, rw (a.constructed, a.number) h)

-- So it shows in a header or behind one.
pub shown_where : (d : ℕ) (i : List ℕ) (e : Refusal) → DerShowsFault (suc d) i e
    → DerHeaderRefuses i e ⊎ ((c : Class) × (p : Bool) × (t n : ℕ) × (rest : List ℕ) × BeginsWithDerHeader i c p t n rest × DerShowsBehind d c p t n rest e)
shown_where d i e (inl h) = inl h
shown_where d i e (inr (inl (c, p, t, n, r, ht, o, hn, s, h))) = inr (c, p, t, n, r, record { octets = o; number = ht; length = hn }, inl (s, h))
shown_where d i e (inr (inr (p, t, w, r, ht, o, s, m, h))) =
    inr (Universal, p, t, length w, w ++ r, element_header i w r Universal p t ht o s, inr (s, refl, m, w, r, refl, refl, h))

-- what ends within a header shows none
pub header_cut_shows_nothing : (d : ℕ) (i : List ℕ) (n : ℕ) (e : Refusal) → DerHeaderLacks i n → DerShowsFault (suc d) i e → ⊥
header_cut_shows_nothing d i n e h s = elim (shown_where d i e s) [ inl k ↦ h.2 e k | inr (c, p, t, m, rest, b, k) ↦ der_header_not_lacking i rest c p t m n b h.1 ]

-- nor does what ends within a content that is not too large
pub content_cut_shows_nothing : (d : ℕ) (i rest : List ℕ) (c : Class) (p : Bool) (t m : ℕ) (e : Refusal) → BeginsWithDerHeader i c p t m rest → length rest < m → m ≤ max_object_size
    → DerShowsFault (suc d) i e → ⊥
content_cut_shows_nothing d i rest c p t m e b l s h = elim (shows_behind d i rest c p t m e b h) [
  | inl k ↦ omega (arith, s, k.0)
  | inr (z, u, k, w, r, o, n, q) ↦ omega (arith, l, n, ap length o, length-append w r)
]

-- one of them, in one way

pub chosen : (b : Bool) (ts us : List Test) (e : Refusal) → b ≡ true → IsFirstRefusal (choose b ts us) e → IsFirstRefusal ts e
chosen true ts us e q h = h
chosen false ts us e q h = cc

pub not_primitive : {A B : Type 0} → ((true ≡ false) × A) ⊎ (B × ⊥) → ⊥
not_primitive (inl h) = let q = h.0 in cc
not_primitive (inr h) = h.1

-- a list that is constructed is not refused as such
pub list_passes : (t : ℕ) (w : List ℕ) (e : Refusal) → IsTrue (is_list t) → DerLeafRefuses true t w e → ⊥
list_passes t w e l r = not_primitive (chosen (is_list t) _ _ e l r.1)

-- no item begins here
abbrev Stops : ℕ → List ℕ → Type 0
Stops d r = (b rest : List ℕ) (o : Node) → r ≡ b ++ rest → DerSpells b o d → ⊥

-- items in front of a list that none follows are one list of items
pub joins_same : (d : ℕ) (l l' : Nodes) (u u' r r' : List ℕ) → Stops d r → Stops d r' → DerJoins u l d → DerJoins u' l' d
    → u ++ r ≡ u' ++ r' → (u ≡ u') × (l ≡ l') × (r ≡ r')
joins_same d no_nodes no_nodes u u' r r' s s' j j' e = (j ∙ sym j', refl, ap (λ x. x ++ r) (sym j) ∙ e ∙ ap (λ x. x ++ r') j')
joins_same d no_nodes (nodes o' l') u u' r r' s s' j (b', rest', q', h', j') e =
    absurd (s b' (rest' ++ r') o' (ap (λ x. x ++ r) (sym j) ∙ e ∙ tail_more b' rest' u' r' q') h')
joins_same d (nodes o l) no_nodes u u' r r' s s' (b, rest, q, h, j) j' e =
    absurd (s' b (rest ++ r) o (ap (λ x. x ++ r') (sym j') ∙ sym e ∙ tail_more b rest u r q) h)
joins_same d (nodes o l) (nodes o' l') u u' r r' s s' (b, rest, q, h, j) (b', rest', q', h', j') e =
    let a = der_spelling_same b b' (rest ++ r) (rest' ++ r') o o' d d h h' (sym (tail_more b rest u r q) ∙ e ∙ tail_more b' rest' u' r' q') in
    let z = joins_same d l l' rest rest' r r' s s' j j' a.2 in
    (q ∙ ap (λ x. x ++ rest) a.0 ∙ ap (λ x. b' ++ x) z.0 ∙ sym q', ap (λ x. nodes x l) a.1 ∙ ap (nodes o') z.1, z.2)

-- what begins with a spelling that is read shows no refusal
abbrev ShowNothing : ℕ → Type 0
ShowNothing d = (i b rest : List ℕ) (o : Node) (e : Refusal) → i ≡ b ++ rest → DerSpells b o d → DerShowsFault d i e → ⊥

item_stops : (d : ℕ) (r : List ℕ) (e : Refusal) → ShowNothing d → ItemRefuses (DerShowsFault d) DerLacks r e → Stops d r
item_stops d r e f (n, inl h) b rest o q s = f r b rest o e q s h
item_stops d r e f (n, inr (m, c, h, z, y)) b rest o q s = der_spelled_not_cut r b rest o d s q c

none_stops : (d : ℕ) → Stops d []
none_stops d b rest o q s = der_spelled_some b rest o d s q

nothing_inside : (d : ℕ) (c : Class) (p : Bool) (t : ℕ) (x : Content) (e : Refusal) → ShowNothing d → c ≡ Universal → IsDerContent c p t x
    → content_height x ≤ suc d → length (content_octets x) ≤ max_object_size → IsTrue (is_mapped t) → DerShowsInside d p t (content_octets x) e → ⊥
nothing_inside d c p t x e f u v h s m q = at (kind c p t x v) q
  where
    at : ((l : Nodes) × ListContent c p t x l) ⊎ LeafOrKept c p t x → DerShowsInside d p t (content_octets x) e → ⊥
    at (inl (l, g)) (inl q) = list_passes t (content_octets x) e g.list (subst (λ b. DerLeafRefuses b t (content_octets x) e) g.constructed q)
    at (inl (l, g)) (inr (hl, hp, l', u, r, o, j, y)) =
        let z = encodings_join l d g.valid (omega (arith, h, g.height)) (omega (arith, s, ap length g.octets)) in
        y.0 (sym (joins_same d l l' (encodings l) u [] r (none_stops d) (item_stops d r e f y) z j (append-nil (encodings l) ∙ sym g.octets ∙ o)).2)
    at (inr (inl (a, n, y))) (inl q) = der_leaf_accepted p t x e y n q
    at (inr (inl (a, n, y))) (inr z) = leaf_no_list t x y z.0
    at (inr (inr y)) z = let a = sym (kept_unmapped c p t (content_octets x) x y u) ∙ m in cc

pub spelled_shows_nothing : (d : ℕ) (i b rest : List ℕ) (o : Node) (e : Refusal) → i ≡ b ++ rest → DerSpells b o d → DerShowsFault d i e → ⊥
spelled_shows_nothing zero i b rest (node c p t x) e q h s = omega (arith, h.depth, content_tall x)
spelled_shows_nothing (suc d) i b rest (node c p t x) e q h s =
    let v = content_octets x in
    elim (shows_behind d i (v ++ rest) c p t (length v) e (der_spelled_header i b rest c p t x (suc d) q h) s) [
      | inl z ↦ omega (arith, h.size, z.0)
      | inr (le, u, m, w, r, o, n, z) ↦ nothing_inside d c p t x e (spelled_shows_nothing d) u h.valid.1 h.depth h.size m
          (subst (λ y. DerShowsInside d p t y e) (sym (fronts_same (content_octets x) w rest r (sym n) o).0) z)
    ]

-- one refusal shows
abbrev ShowOne : ℕ → Type 0
ShowOne d = (i : List ℕ) (e e' : Refusal) → DerShowsFault d i e → DerShowsFault d i e' → e ≡ e'

item_one : (d : ℕ) (r : List ℕ) (e e' : Refusal) → ShowOne d → ItemRefuses (DerShowsFault d) DerLacks r e → ItemRefuses (DerShowsFault d) DerLacks r e' → e ≡ e'
item_one d r e e' f (n, inl h) (n', inl h') = f r e e' h h'
item_one d r e e' f (n, inl h) (n', inr (m', c', a', z', q')) = absurd (z' e h)
item_one d r e e' f (n, inr (m, c, a, z, q)) (n', inl h') = absurd (z e' h')
item_one d r e e' f (n, inr (m, c, a, z, q)) (n', inr (m', c', a', z', q')) = q ∙ ap (λ k. incomplete (Size k)) (der_lacks_same r m m' a a') ∙ sym q'

inside_one : (d : ℕ) (p : Bool) (t : ℕ) (w : List ℕ) (e e' : Refusal) → ShowOne d → DerShowsInside d p t w e → DerShowsInside d p t w e' → e ≡ e'
inside_one d p t w e e' f (inl h) (inl h') = first_refusal_same (der_tests p t w) e e' h.1 h'.1
inside_one d p t w e e' f (inl h) (inr h') = absurd (list_passes t w e h'.0 (subst (λ b. DerLeafRefuses b t w e) h'.1 h))
inside_one d p t w e e' f (inr h) (inl h') = absurd (list_passes t w e' h.0 (subst (λ b. DerLeafRefuses b t w e') h.1 h'))
inside_one d p t w e e' f (inr (hl, hp, l, u, r, o, j, y)) (inr (hl', hp', l', u', r', o', j', y')) =
    let n = spelled_shows_nothing d in
    let q = joins_same d l l' u u' r r' (item_stops d r e n y) (item_stops d r' e' n y') j j' (sym o ∙ o') in
    item_one d r e e' f y (subst (λ x. ItemRefuses (DerShowsFault d) DerLacks x e') (sym q.2) y')

behind_one : (d : ℕ) (c : Class) (p : Bool) (t n : ℕ) (rest : List ℕ) (e e' : Refusal) → ShowOne d → DerShowsBehind d c p t n rest e → DerShowsBehind d c p t n rest e' → e ≡ e'
behind_one d c p t n rest e e' f (inl h) (inl h') = h.1 ∙ sym h'.1
behind_one d c p t n rest e e' f (inl h) (inr h') = absurd (omega (arith, h.0, h'.0))
behind_one d c p t n rest e e' f (inr h) (inl h') = absurd (omega (arith, h.0, h'.0))
behind_one d c p t n rest e e' f (inr (s, u, m, w, r, o, l, h)) (inr (s', u', m', w', r', o', l', h')) =
    let q = fronts_same w w' r r' (l ∙ sym l') (sym o ∙ o') in
    inside_one d p t w e e' f h (subst (λ x. DerShowsInside d p t x e') (sym q.0) h')

pub shows_one : (d : ℕ) (i : List ℕ) (e e' : Refusal) → DerShowsFault d i e → DerShowsFault d i e' → e ≡ e'
shows_one zero i e e' h h' = h ∙ sym h'
shows_one (suc d) i e e' h h' = elim (shown_where d i e h) [
  | inl k ↦ (elim (shown_where d i e' h') [ inl k' ↦ der_header_refusal_same i e e' k k' | inr (c, p, t, n, rest, b, k') ↦ absurd (der_header_not_refused i rest c p t n e b k) ])
  | inr (c, p, t, n, rest, b, k) ↦ behind_one d c p t n rest e e' (shows_one d) k (shows_behind d i rest c p t n e' b h')
]
