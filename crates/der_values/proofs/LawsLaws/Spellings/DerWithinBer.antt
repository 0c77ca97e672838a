-- What DER writes is a spelling by BER. So DER encodings are prefix free, and each has one tree.
use Rattle.std.proofs.Common.{◌≡◌, ℕ, ◌-◌, ◌^◌, ◌<◌, ◌≤◌, Bool, false, List, [], ◌++◌, length, refl, sym, ap, subst, ◌∙◌, arith, append_assoc, length-append, ◌⊎◌, inl, inr, append-nil}
use Rattle.der_base.specs.declared.header.Class.{Class}
use Rattle.der_base.specs.declared.header.Class.TheVariants.{Universal}
use Rattle.der_base.specs.declared.header.Length.TheVariants.{Definite}
use Rattle.der_base.specs.Cut.{IsShape, IsCut}
use Rattle.der_base.specs.Encoding.{encoding, element, content_octets, content_octets_of, encodings}
use Rattle.der_base.specs.Fault.{DerJoins}
use Rattle.der_base.specs.Headers.{BeginsWithDerHeader}
use Rattle.der_base.specs.Leaf.{IsLeafContent}
use Rattle.der_base.specs.Octets.{identifier, shortest_length}
use Rattle.der_base.specs.Spelling.{framing_budget, form, Forms, no_forms, forms, BerSpells, IsContent, Joins, IsDerValid, IsDerContent, AreDerValid, max_object_size, DerSpells}
use Rattle.der_base.specs.Tree.{Node, node, Content, sequence, set, absent, present, tagged, Nodes, no_nodes, nodes, height, content_height, list_height}
use Rattle.der_base.proofs.Framing.Elements.{identifier_some}
use Rattle.der_base.proofs.Framing.UniqueSpelling.{unique_spelling}
use Rattle.der_base.proofs.Octets.Identifiers.{fronts_same}
use Rattle.der_base.proofs.Framing.Shapes.{shape_same}
use Rattle.der_base.proofs.Octets.ShortestLengths.{shortest_spells}
use Rattle.der_base.proofs.Octets.LengthOctets.{no_more}

no_content : {A B C : Type 0} → (A × B × (⊥ × C)) ⊎ ⊥ → ⊥
no_content (inl h) = h.2.0
no_content (inr h) = h

-- a tree that has an encoding is written as an element of its own header
pub valid_element : (c : Class) (p : Bool) (t : ℕ) (x : Content) → IsDerContent c p t x → encoding (node c p t x) ≡ element c p t (content_octets x)
valid_element c p t absent h = absurd (no_content h)
valid_element c p t (present o) h = absurd (no_content h)
valid_element c p t (tagged c' t' o) h = absurd (no_content h)
valid_element c p t x h = refl

pub content_tall : (x : Content) → 1 ≤ content_height x
content_tall (sequence l) = omega arith
content_tall (set l) = omega arith
content_tall _ = omega arith

-- content octets are within the octets that are written
pub content_shorter : (o : Node) → IsDerValid o → length (content_octets_of o) ≤ length (encoding o)
content_shorter (node c p t x) h =
    let w = content_octets x in
    omega (arith, ap length (valid_element c p t x h.1), length-append (identifier c p t ++ shortest_length (length w)) w)

-- a content that is written for no list is one by BER
flat_within : {c : Class} {p : Bool} (t : ℕ) (w : List ℕ) (x : Content) {K S : Type 0}
    → ((c ≡ Universal) × (p ≡ false) × (IsLeafContent false t w x × S)) ⊎ K → ((c ≡ Universal) × IsLeafContent p t w x) ⊎ K
flat_within t w x (inl (ec, ep, h)) = inl (ec, subst (λ q. IsLeafContent q t w x) (sym ep) h.0)
flat_within t w x (inr k) = inr k

mutual
  node_within : (o : Node) (d : ℕ) → IsDerValid o → height o ≤ d → length (content_octets_of o) < 2 ^ 64 → BerSpells (encoding o) o d framing_budget
  node_within (node c p t x) d v h s =
      let w = content_octets x in
      let q = content_within x c p t d v.1 h s in
      (form (Definite (length w)) q.0, (v.0, omega (arith, h, content_tall x), omega arith, inl (shortest_length (length w), w, refl, shortest_spells (length w) s, valid_element c p t x v.1, q.1)))

  content_within : (x : Content) (c : Class) (p : Bool) (t d : ℕ) → IsDerContent c p t x → content_height x ≤ d → length (content_octets x) < 2 ^ 64
      → (fs : Forms) × IsContent (content_octets x) c p t x fs d framing_budget
  content_within (sequence l) c p t d v h s = let q = list_within l (d - 1) v.3 (omega (arith, h)) s in (q.0, (v.0, v.1, v.2, q.1))
  content_within (set l) c p t d v h s = let q = list_within l (d - 1) v.3 (omega (arith, h)) s in (q.0, (v.0, v.1, v.2, q.1))
  content_within x c p t d v h s = (no_forms, (refl, flat_within t (content_octets x) x v))

  list_within : (l : Nodes) (d : ℕ) → AreDerValid l → list_height l ≤ d → length (encodings l) < 2 ^ 64 → (fs : Forms) × Joins (encodings l) l fs d framing_budget
  list_within no_nodes d v h s = (no_forms, refl)
  list_within (nodes o l) d v h s =
      let n = length-append (encoding o) (encodings l) in
      let q = node_within o d v.0 (omega (arith, h)) (omega (arith, s, n, content_shorter o v.0)) in
      let r = list_within l d v.1 (omega (arith, h)) (omega (arith, s, n)) in
      (forms q.0 r.0, (encoding o, encodings l, refl, q.1, r.1))

-- A spelling by DER is one by BER.
pub der_within_ber : (b : List ℕ) (o : Node) (d : ℕ) → DerSpells b o d → BerSpells b o d framing_budget
der_within_ber b o d h = subst (λ w. BerSpells w o d framing_budget) (sym h.encoded) (node_within o d h.valid h.depth (omega (arith, h.size)))

-- Spellings by DER at the front of one list are one, of one tree.
pub der_spelling_same : (b b' x y : List ℕ) (o o' : Node) (d d' : ℕ) → DerSpells b o d → DerSpells b' o' d' → b ++ x ≡ b' ++ y → (b ≡ b') × (o ≡ o') × (x ≡ y)
der_spelling_same b b' x y o o' d d' h h' e =
    let q = unique_spelling b b' o o' d d' x y (der_within_ber b o d h) (der_within_ber b' o' d' h') e in
    (q.0, q.1, (fronts_same b b' x y (ap length q.0) e).1)

-- the octets of a spelling
pub der_element : (b : List ℕ) (c : Class) (p : Bool) (t : ℕ) (x : Content) (d : ℕ) → DerSpells b (node c p t x) d → b ≡ element c p t (content_octets x)
der_element b c p t x d h = h.encoded ∙ valid_element c p t x h.valid.1

-- an element begins with its header
pub element_header : (i w rest : List ℕ) (c : Class) (p : Bool) (t : ℕ) → t < 2 ^ 32 → i ≡ element c p t w ++ rest → length w ≤ max_object_size → BeginsWithDerHeader i c p t (length w) (w ++ rest)
element_header i w rest c p t h e s = record { octets = e ∙ append_assoc (identifier c p t ++ shortest_length (length w)) w rest; number = h; length = omega (arith, s) }

-- so does a spelling
pub der_spelled_header : (i b rest : List ℕ) (c : Class) (p : Bool) (t : ℕ) (x : Content) (d : ℕ) → i ≡ b ++ rest → DerSpells b (node c p t x) d
    → BeginsWithDerHeader i c p t (length (content_octets x)) (content_octets x ++ rest)
der_spelled_header i b rest c p t x d e h = element_header i (content_octets x) rest c p t h.valid.0 (e ∙ ap (λ l. l ++ rest) (der_element b c p t x d h)) h.size

-- it has an octet
pub der_spelled_some : (b rest : List ℕ) (o : Node) (d : ℕ) → DerSpells b o d → [] ≡ b ++ rest → ⊥
der_spelled_some b rest (node c p t x) d h e =
    let s = shortest_length (length (content_octets x)) in
    let v = content_octets x ++ rest in
    identifier_some c p t (s ++ v) ((der_spelled_header [] b rest c p t x d e h).octets ∙ append_assoc (identifier c p t) s v)

-- it is a shape
pub der_shape : (b : List ℕ) (o : Node) (d : ℕ) → DerSpells b o d → IsShape b
der_shape b (node c p t x) d h =
    let w = content_octets x in
    (c, p, t, w, inl (shortest_length (length w), (shortest_spells (length w) (omega (arith, h.size))).1, der_element b c p t x d h))

-- so an input that is cut short begins with none
pub der_spelled_not_cut : (i b rest : List ℕ) (o : Node) (d : ℕ) → DerSpells b o d → i ≡ b ++ rest → IsCut i → ⊥
der_spelled_not_cut i b rest o d h e (r, n, s) =
    let q = shape_same b (i ++ r) (rest ++ r) [] (der_shape b o d h) s (sym (append_assoc b rest r) ∙ ap (λ l. l ++ r) (sym e) ∙ sym (append-nil (i ++ r))) in
    n (no_more rest r q.1)

-- the items of a list, one after another

-- what is written for a list joins what is written for its items
pub encodings_join : (l : Nodes) (d : ℕ) → AreDerValid l → list_height l ≤ d → length (encodings l) ≤ max_object_size → DerJoins (encodings l) l d
encodings_join no_nodes d v h s = refl
encodings_join (nodes o l) d v h s =
    let n = length-append (encoding o) (encodings l) in (
      encoding o,
      encodings l,
      refl,
      record { encoded = refl; valid = v.0; depth = omega (arith, h); size = omega (arith, s, n, content_shorter o v.0) },
      encodings_join l d v.1 (omega (arith, h)) (omega (arith, s, n)),
    )
