-- Elements that are opened as far as their content is there, and values one after another.
use Rattle.std.specs.Prelude.{◌≡◌, ℕ, true, List, ◌++◌, take, MatchOption, Option, Some, None, unwrap_or}
use Rattle.der_base.specs.declared.header.Class.{Class}
use Rattle.der_base.specs.declared.header.Class.TheVariants.{Universal}
use Rattle.der_base.specs.declared.header.Header.{Header}
use Rattle.der_base.specs.Header.{class_of, is_constructed, number_of}
use Rattle.der_base.specs.Headers.{BeginsWithDerHeader}
use Rattle.x509.specs.Formats.{Fault, Format, Items, each, spells}
use Rattle.x509.specs.Lists.{BeginsWithNone}

-- i begins with the header of a constructed element of this class and number in DER (X.690 8.1, 10.1), and w are its
-- content octets, as many as are there
abbrev pub Opens : Class → ℕ → List ℕ → List ℕ → Type 0
Opens c t i w = (n : ℕ) × (rest : List ℕ) × BeginsWithDerHeader i c true t n rest × (w ≡ take n rest)

-- the same of a SEQUENCE that such an element begins with
abbrev pub OpensSequenceIn : Class → ℕ → List ℕ → List ℕ → Type 0
OpensSequenceIn c t i w = (x : List ℕ) × Opens c t i x × Opens Universal 16 x w

-- the header of such an element
abbrev pub HasHeader : Header → Class → ℕ → Type 0
HasHeader h c t = (class_of h ≡ c) × (is_constructed h ≡ true) × (number_of h ≡ t)

-- the octets that are so, or none if none are
abbrev pub Finds : (List ℕ → Type 0) → Option (List ℕ) → Type 0
Finds P o = MatchOption o ((w : List ℕ) → ¬ P w) P

-- w has the values of a format that i begins with, one after another, up to where it begins with no further one
abbrev pub AreFirst : {V : Type 0} → Format Fault V → List ℕ → List ℕ → Type 0
AreFirst f i w = (rest : List ℕ) × (i ≡ w ++ rest) × Items (λ s. spells (each f s)) tt i tt rest × BeginsWithNone f rest

-- A field after others. If these were read, and i follows them: its value, if i begins with one, and then what is left;
-- else none. If not, there is none.
abbrev pub Field : {V : Type 0} → Format Fault V → Option (List ℕ) → Option V → Option (List ℕ) → Type 0
Field f (Some i) (Some v) left = (rest : List ℕ) × (left ≡ Some rest) × spells f i v rest
Field f (Some i) None left = BeginsWithNone f i × (left ≡ None)
Field f None v left = (v ≡ None) × (left ≡ None)

-- the same of a field that may be absent: none too if it is
abbrev pub OptionalField : {V : Type 0} → Format Fault (Option V) → Option (List ℕ) → Option V → Option (List ℕ)
    → Type 0
OptionalField {V} f i v left = (x : Option (Option V)) × Field f i x left × (v ≡ unwrap_or x None)
