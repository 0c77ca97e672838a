-- Content octets by DER.
use Rattle.std.specs.Prelude.{◌≡◌, ℕ, ◌≤◌, Bool, List}
use Rattle.der_base.specs.declared.header.Class.{Class}
use Rattle.der_base.specs.Encoding.{content_octets}
use Rattle.der_base.specs.Spelling.{IsDerContent}
use Rattle.der_base.specs.Tree.{Content, content_height}

-- the octets w are the DER content octets of x in an element of this class, bit and number, to depth d
pub record IsDerContentOf (w : List ℕ) (c : Class) (p : Bool) (t : ℕ) (x : Content) (d : ℕ) : Type 0 where
  pub octets : w ≡ content_octets x
  pub valid : IsDerContent c p t x
  pub depth : content_height x ≤ d
