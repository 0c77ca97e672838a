-- What the reader into a vector returns.
use Rattle.std.specs.Borrow.{Bor}
use Rattle.std.specs.Prelude.{◌≡◌, ℕ, List, ◌++◌, Option, Result, MatchOption, MatchResult}
use Rattle.std.specs.declared.alloc.AllocError.{AllocError}
use Rattle.std.specs.declared.alloc.Global.{Global}
use Rattle.std.specs.declared.vec.Vec.{Vec}
use Rattle.der_base.specs.declared.rules.Rules.{Rules}
use Rattle.der_elements.specs.declared.check.element.Element.{Element}
use Rattle.der_elements.specs.Check.Elements.{IsElement}
use Rattle.der_elements.specs.Check.Listing.{listed_one}
use Rattle.der_elements.specs.Check.Readers.{BeginsWithElement}

-- i begins with an element, and rest follows; itself and those inside it are these, in preorder
abbrev pub HasElements : Rules → ℕ → List ℕ → List ℕ → List Element → Type 0
HasElements r d i rest es = (b : List ℕ) × (i ≡ b ++ rest) × (is : IsElement r d b) × (es ≡ listed_one is 0)

-- it begins with an element, or with none
abbrev pub BeginsWithSome : Rules → ℕ → List ℕ → Type 0
BeginsWithSome r d i = (rest : List ℕ) × BeginsWithElement r d i rest

abbrev pub BeginsWithNone : Rules → ℕ → List ℕ → Type 0
BeginsWithNone r d i = (rest : List ℕ) → BeginsWithElement r d i rest → ⊥

-- The result is what follows the element at the start of i, and the elements; None where there is none. Memory is
-- wanted where there is one alone.
abbrev pub ReadsElement : Rules → ℕ → List ℕ → Result (Option (Bor (List ℕ) × Vec Element Global)) AllocError → Type 0
ReadsElement r d i result = MatchResult result
    (λ x. MatchOption x (BeginsWithNone r d i) (λ y. HasElements r d i y.0.now y.1.items))
    (λ _. BeginsWithSome r d i)
