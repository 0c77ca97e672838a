-- Octets are one content, and are written for one DER content.
use Rattle.std.proofs.Common.{◌≡◌, ℕ, Bool, false, List, refl, subst, inl}
use Rattle.der_base.specs.declared.header.Class.TheVariants.{Universal}
use Rattle.der_base.specs.Encoding.{content_octets}
use Rattle.der_base.specs.Leaf.{IsLeafContent, IsDerLeaf}
use Rattle.der_base.specs.Spelling.{IsContent, no_forms}
use Rattle.der_base.specs.Tree.{Content, sequence, set}
use Rattle.der_base.proofs.Spellings.Contents.{content_same}
use Rattle.der_base.proofs.Times.OneReading.{times_same}

is_content : (p : Bool) (t : ℕ) (w : List ℕ) (x : Content) → IsLeafContent p t w x → IsContent w Universal p t x no_forms 1 1
is_content p t w (sequence l) h = absurd h
is_content p t w (set l) h = absurd h
is_content p t w _ h = (refl, inl (refl, h))

-- octets have one content
pub one_content : (p : Bool) (t : ℕ) (w : List ℕ) (x y : Content) → IsLeafContent p t w x → IsLeafContent p t w y → x ≡ y
one_content p t w x y h g = content_same times_same x y w Universal p t no_forms no_forms 1 1 1 1 (is_content p t w x h) (is_content p t w y g)

-- octets are written for one content
pub one_der_leaf : (t : ℕ) (x y : Content) → IsDerLeaf t x → IsDerLeaf t y → content_octets x ≡ content_octets y → x ≡ y
one_der_leaf t x y h g e = one_content false t (content_octets y) x y (subst (λ w. IsLeafContent false t w x) e h.0) g.0
