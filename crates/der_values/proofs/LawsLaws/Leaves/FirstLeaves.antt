-- The laws of leaves, as readers cite them.
use Rattle.std.proofs.Common.{◌≡◌, ℕ, Bool, false, List, subst}
use Rattle.der_base.specs.Encoding.{content_octets}
use Rattle.der_base.specs.Leaf.{IsDerLeaf}
use Rattle.der_base.specs.LeafRefusal.{Test, IsFirstRefusal, DerLeafRefuses}
use Rattle.der_base.specs.Refusal.{Refusal}
use Rattle.der_base.specs.Tree.{Content}
use Rattle.der_values.proofs.LawsLaws.Leaves.NeverBoth.{never_both_der}
use Rattle.der_base.proofs.Leaves.Refusals.{first_refusal_once}

-- what is written for a content, in an element that is primitive, is not refused
pub der_leaf_accepted : (p : Bool) (t : ℕ) (x : Content) (e : Refusal) → IsDerLeaf t x → p ≡ false → DerLeafRefuses p t (content_octets x) e → ⊥
der_leaf_accepted p t x e h q r = never_both_der t x e h (subst (λ b. DerLeafRefuses b t (content_octets x) e) q r)

-- tests have one refusal
pub first_refusal_same : (ts : List Test) (e e' : Refusal) → IsFirstRefusal ts e → IsFirstRefusal ts e' → e ≡ e'
first_refusal_same = first_refusal_once
