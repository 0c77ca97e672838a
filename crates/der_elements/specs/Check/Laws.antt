-- The statement of the law in `src/laws.rt`.
use Rattle.std.specs.Prelude.{◌≡◌, ℕ, List}
use Rattle.der_base.specs.declared.rules.Rules.{Rules}
use Rattle.der_elements.specs.Check.Elements.{AreElements, IsElement}
use Rattle.der_elements.specs.Check.Listing.{listed, listed_one}

-- octets that are elements have only one list, whatever the rules and the depth
abbrev pub OneListOfElements : Type 0
OneListOfElements = (r r' : Rules) (d d' : ℕ) (i : List ℕ) (a : ℕ) (are : AreElements r d i)
    (are' : AreElements r' d' i) → listed are a ≡ listed are' a

-- octets that are one element have only one list, whatever the rules and the depth
abbrev pub OneListOfElement : Type 0
OneListOfElement = (r r' : Rules) (d d' : ℕ) (b : List ℕ) (a : ℕ) (is : IsElement r d b) (is' : IsElement r' d' b)
    → listed_one is a ≡ listed_one is' a
