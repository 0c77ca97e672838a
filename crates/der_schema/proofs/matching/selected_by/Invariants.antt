use Rattle.std.proofs.Common.{◌≡◌, length}
use Rattle.der_schema.specs.Meaning.{selected_by}
use Rattle.der_schema.proofs.matching.selected_by.Given as goal

abbrev pub invariant-loop-selection : goal.invariant-loop-selection
invariant-loop-selection l = selected_by l.ahead l.fn.identifier ≡ selected_by l.fn.selections l.fn.identifier

abbrev pub decreases-loop-selection : goal.decreases-loop-selection
decreases-loop-selection l = length l.ahead
