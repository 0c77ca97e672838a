use Rattle.std.proofs.Common.{ℕ, List}
use Rattle.der_base.specs.declared.rules.Rules.{Rules}
use Rattle.der_elements.specs.Ends.{octets_ahead}
use Rattle.der_elements.specs.Visits.{Extras, Visited}
use Rattle.der_elements.specs.Walked.{HasVisited}
use Rattle.der_elements.proofs.walk.Walk.find_fault.Given as goal

-- the walk has visited more
abbrev pub invariant-elements : goal.invariant-elements
invariant-elements l = (x : Extras) (r : Rules) (i : List ℕ) (vs : List Visited) → HasVisited x r i l.fn.self vs → (us : List Visited) × HasVisited x r i l.self us

abbrev pub decreases-elements : goal.decreases-elements
decreases-elements l = octets_ahead l.self
