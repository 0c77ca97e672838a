-- Tagged objects and objects that may be absent, as trees: how they are written, how high they are, and that no octets are read as one.
use Rattle.std.proofs.Common.{◌≡◌, ℕ, Bool, true, false, List, [], ◌∷◌, refl, inl, inr}
use Rattle.der_base.specs.declared.header.Class.{Class}
use Rattle.der_base.specs.declared.header.Class.TheVariants.{Universal, Application, ContextSpecific}
use Rattle.der_base.specs.Encoding.{encoding, content_octets}
use Rattle.der_base.specs.Octets.{identifier, shortest_length}
use Rattle.der_base.specs.TreeEquality.{same_node}
use Rattle.der_base.specs.Spelling.{BerSpellsAs, Form, form, IsDerValid}
use Rattle.der_base.specs.Tree.{Node, node, integer, sequence, nodes, no_nodes, absent, present, tagged, height}

abbrev two : Node
two = node Universal false 2 (integer (2 ∷ []))

-- 62 03 02 01 02: the class and number are those of the content, whatever the node's own are
encoded_tagged : encoding (node Universal false 0 (tagged Application 2 two)) ≡ 0x62 ∷ 3 ∷ 2 ∷ 1 ∷ 2 ∷ []
unfolding identifier shortest_length
encoded_tagged = refl

-- the content octets of a tagged object are the whole object, and those of one that is there are its own
content_of_tagged : content_octets (tagged Application 2 two) ≡ 2 ∷ 1 ∷ 2 ∷ []
unfolding identifier shortest_length
content_of_tagged = refl

content_of_present : content_octets (present two) ≡ 2 ∷ []
content_of_present = refl

encoded_present : encoding (node ContextSpecific true 9 (present two)) ≡ 2 ∷ 1 ∷ 2 ∷ []
unfolding identifier shortest_length
encoded_present = refl

encoded_absent : encoding (node ContextSpecific true 9 absent) ≡ []
encoded_absent = refl

-- they count one, whatever is inside
height_of_tagged : height (node ContextSpecific true 0 (tagged ContextSpecific 0 (node Universal true 16 (sequence (nodes two no_nodes))))) ≡ 1
height_of_tagged = refl

height_of_present : height (node Universal true 16 (present (node Universal true 16 (sequence (nodes two no_nodes))))) ≡ 1
height_of_present = refl

-- they are equal where their tags and their objects are
other_tag : same_node (node Universal false 0 (tagged Application 2 two)) (node Universal false 0 (tagged Application 3 two)) ≡ false
other_tag = refl

present_is_not_absent : same_node (node Universal false 0 (present two)) (node Universal false 0 absent) ≡ false
present_is_not_absent = refl

-- no octets spell one
no_tagged : (b : List ℕ) (c c' : Class) (p : Bool) (t t' : ℕ) (o : Node) (f : Form) (d k : ℕ) → BerSpellsAs b (node c p t (tagged c' t' o)) f d k → ⊥
no_tagged b c c' p t t' o (form h fs) d k (_, _, _, inl (s, w, _, _, _, (_, inl (_, x)))) = x
no_tagged b c c' p t t' o (form h fs) d k (_, _, _, inl (s, w, _, _, _, (_, inr x))) = x
no_tagged b c c' p t t' o (form h fs) d k (_, _, _, inr (w, _, _, _, _, (_, _, inl (_, x)))) = x
no_tagged b c c' p t t' o (form h fs) d k (_, _, _, inr (w, _, _, _, _, (_, _, inr x))) = x

no_present : (b : List ℕ) (c : Class) (p : Bool) (t : ℕ) (o : Node) (f : Form) (d k : ℕ) → BerSpellsAs b (node c p t (present o)) f d k → ⊥
no_present b c p t o (form h fs) d k (_, _, _, inl (s, w, _, _, _, (_, inl (_, x)))) = x
no_present b c p t o (form h fs) d k (_, _, _, inl (s, w, _, _, _, (_, inr x))) = x
no_present b c p t o (form h fs) d k (_, _, _, inr (w, _, _, _, _, (_, _, inl (_, x)))) = x
no_present b c p t o (form h fs) d k (_, _, _, inr (w, _, _, _, _, (_, _, inr x))) = x

-- nor has one a DER spelling
not_valid : (c c' : Class) (p : Bool) (t t' : ℕ) (o : Node) → IsDerValid (node c p t (tagged c' t' o)) → ⊥
not_valid c c' p t t' o (_, inl (_, _, (x, _))) = x
not_valid c c' p t t' o (_, inr x) = x

absent_not_valid : (c : Class) (p : Bool) (t : ℕ) → IsDerValid (node c p t absent) → ⊥
absent_not_valid c p t (_, inl (_, _, (x, _))) = x
absent_not_valid c p t (_, inr x) = x
