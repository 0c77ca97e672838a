use Rattle.der_elements.specs.Ends.{octets_ahead}
use Rattle.der_actions.proofs.Collecting.{HasKept}
use Rattle.der_actions.proofs.diff.elements_of.Given as goal

-- the elements that were visited are kept
abbrev pub invariant-elements : goal.invariant-elements
invariant-elements g l = record { kept : HasKept l.options l.octets l.walk l.fields l.kept.items }

abbrev pub decreases-elements : goal.decreases-elements
decreases-elements g l = octets_ahead l.walk
