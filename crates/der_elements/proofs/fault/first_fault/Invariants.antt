use Rattle.std.proofs.Common.{List}
use Rattle.std.specs.List.{All}
use Rattle.der_elements.specs.Ends.{octets_ahead}
use Rattle.der_elements.specs.FirstFault.{IsShallow, no_extras}
use Rattle.der_elements.specs.Visits.{Visited}
use Rattle.der_elements.specs.Walked.{HasVisited}
use Rattle.der_elements.proofs.fault.first_fault.Given as goal

-- the elements so far were visited
abbrev pub invariant-elements : goal.invariant-elements
invariant-elements l = (vs : List Visited) × HasVisited no_extras l.fn.rules l.fn.octets l.walk vs × All (IsShallow l.fn.max_depth) vs

abbrev pub decreases-elements : goal.decreases-elements
decreases-elements l = octets_ahead l.walk
