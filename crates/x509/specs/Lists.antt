-- What iterators over lists of a certificate give.
use Rattle.std.specs.Prelude.{◌≡◌, ℕ, ◌<◌, List, length, Option, MatchOption}
use Rattle.x509.specs.declared.first_element.FirstElement.{FirstElement}
use Rattle.x509.specs.declared.lists.Attributes.{Attributes}
use Rattle.x509.specs.declared.lists.ExtensionIter.{ExtensionIter}
use Rattle.x509.specs.declared.lists.RelativeNames.{RelativeNames}
use Rattle.x509.specs.Formats.{Fault, Format, spells, with_octets}

-- the octets of the items that an iterator has not yet given
abbrev pub names_left : RelativeNames → List ℕ
names_left n = n.left.now

abbrev pub attributes_left : Attributes → List ℕ
attributes_left a = a.left.now

abbrev pub extensions_left : ExtensionIter → List ℕ
extensions_left e = e.left.now

-- octets begin with no value of a format
abbrev pub BeginsWithNone : {E V : Type 0} → Format E V → List ℕ → Type 0
BeginsWithNone {V = V} f i = (v : V) (rest : List ℕ) → ¬ spells f i v rest

-- A call of `next` gives the value that the octets begin with, and those after it are left. It gives None where they
-- begin with none, and they are left.
module _ {S A E V : Type 0} (left : S → List ℕ) (view : A → V) (f : Format E V) where
  abbrev pub YieldsNext : S → Option A → S → Type 0
  YieldsNext s r t = MatchOption r (BeginsWithNone f (left s) × (left t ≡ left s))
      (λ x. spells f (left s) (view x) (left t))

-- The octets begin with a value of a format, which is found with its own octets and those after it. None where they
-- begin with none.
abbrev pub FindsFirst : Format Fault (List ℕ) → List ℕ → Option FirstElement → Type 0
FindsFirst f i r = MatchOption r (BeginsWithNone f i)
    (λ x. spells (with_octets f) i (x.octets.now, x.content.now) x.rest.now × (length x.rest.now < length i))

-- of the values of a format that i begins with, one after another, there is one of which P holds, with what follows it
pub data Somewhere {E V : Type 0} (f : Format E V) (P : V → List ℕ → Type 0) : List ℕ → Type 0 where
  here : {i rest : List ℕ} (v : V) → spells f i v rest → P v rest → Somewhere f P i
  later : {i rest : List ℕ} (v : V) → spells f i v rest → Somewhere f P rest → Somewhere f P i
