-- The parts of a header (X.690 8.1.1).
use Rattle.std.specs.Prelude.{◌≡◌, ℕ, Bool, List, Option, Some, None, if◌then◌else◌}
use Rattle.der_base.specs.declared.header.Class.{Class}
use Rattle.der_base.specs.declared.header.Header.{Header}
use Rattle.der_base.specs.declared.header.Length.{Length}
use Rattle.der_base.specs.declared.header.Length.TheVariants.{Definite, Indefinite}

abbrev pub class_of : Header → Class
class_of h = h.class

abbrev pub is_constructed : Header → Bool
is_constructed h = h.constructed

-- the tag number
abbrev pub number_of : Header → ℕ
number_of h = h.tag.0

abbrev pub length_of : Header → Length
length_of h = if h.definite then Definite h.size else Indefinite

-- the identifier octets, where the header has any
abbrev pub raw_tag_of : Header → Option (List ℕ)
raw_tag_of h = if h.has_raw_tag then Some h.raw_tag.now else None

-- the header has these parts
pub record IsHeader (h : Header) (c : Class) (p : Bool) (t : ℕ) (l : Length) (raw : Option (List ℕ)) : Type 0 where
  pub class : class_of h ≡ c
  pub constructed : is_constructed h ≡ p
  pub number : number_of h ≡ t
  pub length : length_of h ≡ l
  pub raw_tag : raw_tag_of h ≡ raw
