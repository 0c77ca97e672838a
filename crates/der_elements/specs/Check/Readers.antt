-- What the functions of the check return for the start of an input.
use Rattle.std.specs.Borrow.{Bor}
use Rattle.std.specs.Prelude.{◌≡◌, ℕ, ◌-◌, ◌<◌, ◌≤◌, Bool, true, false, Option, List, ◌++◌, length, IfSome, MatchOption}
use Rattle.der_base.specs.declared.header.Class.{Class}
use Rattle.der_base.specs.declared.header.Length.{Length}
use Rattle.der_base.specs.declared.header.Length.TheVariants.{Definite, Indefinite}
use Rattle.der_base.specs.Spelling.{end_marker}
use Rattle.der_base.specs.declared.rules.Rules.{Rules}
use Rattle.der_elements.specs.Check.Elements.{AreElements, IsElement, MayBeConstructed, MayHaveContent}
use Rattle.der_contents.specs.ContentRules.{IsContent}

-- the result is the only rest for which P holds, or None if there is none
pub record Finds (P : List ℕ → Type 0) (result : Option (Bor (List ℕ))) : Type 0 where
  pub found : IfSome result (λ x. P x.now)
  pub only : (rest : List ℕ) → P rest → MatchOption result ⊥ (λ x. x.now ≡ rest)

-- the input begins with an element, followed by rest
abbrev pub BeginsWithElement : Rules → ℕ → List ℕ → List ℕ → Type 0
BeginsWithElement r d i rest = (b : List ℕ) × (i ≡ b ++ rest) × IsElement r d b

-- the input begins with this many octets, for which P holds
abbrev pub BeginsWithPart : (List ℕ → Type 0) → ℕ → List ℕ → List ℕ → Type 0
BeginsWithPart P n i rest = (w : List ℕ) × (length w ≡ n) × (i ≡ w ++ rest) × P w

-- the input begins with the content of a primitive element of this class, number and length
abbrev pub BeginsWithContent : Rules → Class → ℕ → Length → List ℕ → List ℕ → Type 0
BeginsWithContent r c t (Definite n) i rest = BeginsWithPart (MayHaveContent r c t) n i rest
BeginsWithContent r c t Indefinite i rest = ⊥

-- the input begins with elements to a depth and then end-of-contents octets
abbrev pub BeginsWithOpenContent : Rules → ℕ → List ℕ → List ℕ → Type 0
BeginsWithOpenContent r d i rest = (w : List ℕ) × (i ≡ w ++ (end_marker ++ rest)) × AreElements r d w

-- the input begins with a content of this length, which is elements, and with its end-of-contents octets
abbrev pub BeginsWithElements : Rules → ℕ → Length → List ℕ → List ℕ → Type 0
BeginsWithElements r d (Definite n) i rest = BeginsWithPart (AreElements r d) n i rest
BeginsWithElements r d Indefinite i rest = BeginsWithOpenContent r d i rest

-- the input begins with what may follow the header of an element of this class, form, number and length
abbrev pub Follows : Rules → ℕ → Class → Bool → ℕ → Length → List ℕ → List ℕ → Type 0
Follows r d c false t l i rest = BeginsWithContent r c t l i rest
Follows r d c true t l i rest = MayBeConstructed r c t × BeginsWithElements r (d - 1) l i rest

-- the identifier octet and the content of a primitive element of a universal type
abbrev pub IsPlain : Rules → ℕ → List ℕ → Type 0
IsPlain r first w = (1 ≤ first) × (first < 31) × IsContent r first w
