use Rattle.std.proofs.Common.{length}
use Rattle.der_extensions.proofs.VectorLaws.{Goes}
use Rattle.der_extensions.proofs.timestamps.are_vectors.Given as goal

-- what is left decides
abbrev pub invariant-loop-left : goal.invariant-loop-left
invariant-loop-left l = Goes l.octets l.left

abbrev pub decreases-loop-left : goal.decreases-loop-left
decreases-loop-left l = length l.left
