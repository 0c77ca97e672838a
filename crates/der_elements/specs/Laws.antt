-- Laws of what a walk visits.
use Rattle.std.specs.Prelude.{◌≡◌, ℕ, ◌+◌, ◌<◌, ◌≤◌, true, List, length, IfSome}
use Rattle.std.specs.List.{All}
use Rattle.der_base.specs.declared.rules.Rules.{Rules}
use Rattle.der_base.specs.declared.rules.Rules.TheVariants.{Ber}
use Rattle.der_elements.specs.Check.Elements.{AreElements}
use Rattle.der_elements.specs.Check.Readers.{BeginsWithElement}
use Rattle.der_elements.specs.declared.path.Step.{Step}
use Rattle.der_elements.specs.declared.error.ElementError.{ElementError}
use Rattle.der_elements.specs.FirstFault.{IsFirstFault, IsFirstFaultOf}
use Rattle.der_elements.specs.Visits.{Visited, Extras, Visits}

-- octets are valid elements if they are visited, by DER, or by a walk that rejects values that break their type
abbrev pub VisitsElements : Type 0
VisitsElements = (x : Extras) (r : Rules) (d k a : ℕ) (i : List ℕ) (vs : List Visited)
    → (x.keeps_values ≡ true → r ≡ Ber → ⊥) → Visits x r d k a i vs → AreElements r d i

-- the header and the content lie within these offsets, and the depth in this range
abbrev pub IsWithin : ℕ → ℕ → ℕ → ℕ → Visited → Type 0
IsWithin a z k d v = (a ≤ v.offset) × (v.offset + v.header ≤ z)
    × IfSome v.length (λ n. v.offset + v.header + n ≤ z) × (k ≤ v.depth) × (v.depth < k + d)

-- every element that is visited lies within the octets
abbrev pub VisitsWithin : Type 0
VisitsWithin = (x : Extras) (r : Rules) (d k a : ℕ) (i : List ℕ) (vs : List Visited) → Visits x r d k a i vs
    → All (IsWithin a (a + length i) k d) vs

-- octets are visited in only one way
abbrev pub VisitsOnce : Type 0
VisitsOnce = (x : Extras) (r : Rules) (d k a : ℕ) (i : List ℕ) (vs vs' : List Visited) → Visits x r d k a i vs
    → Visits x r d k a i vs' → vs ≡ vs'

-- an input has one first fault, at one offset, with one cause and path, after the same elements
abbrev pub FaultsOnce : Type 0
FaultsOnce = (x : Extras) (r : Rules) (i : List ℕ) (vs vs' : List Visited) (steps steps' : List Step) (f f' : ElementError)
    → IsFirstFault x r i vs steps f → IsFirstFault x r i vs' steps' f' → (vs ≡ vs') × (steps ≡ steps') × (f ≡ f')

-- octets that should begin with an element have one first fault
abbrev pub FaultsOfOnce : Type 0
FaultsOfOnce = (r : Rules) (d : ℕ) (i : List ℕ) (f f' : ElementError) → IsFirstFaultOf r d i f → IsFirstFaultOf r d i f'
    → f ≡ f'

-- valid elements have no fault
abbrev pub FaultsNever : Type 0
FaultsNever = (x : Extras) (r : Rules) (i : List ℕ) (vs : List Visited) (steps : List Step) (f : ElementError)
    → IsFirstFault x r i vs steps f → ¬ AreElements r 101 i

-- octets that begin with a valid element have no fault
abbrev pub FaultsOfNever : Type 0
FaultsOfNever = (r : Rules) (d : ℕ) (i rest : List ℕ) (f : ElementError) → IsFirstFaultOf r d i f → ¬ BeginsWithElement r d i rest
