use Rattle.std.proofs.Common.{◌≡◌, length}
use Rattle.der_elements.specs.Reasons.{is_reserved_behind}
use Rattle.der_elements.proofs.cause.is_reserved_behind.Given as goal

-- the octets before them say nothing
abbrev pub invariant-loop-rest : goal.invariant-loop-rest
invariant-loop-rest l = is_reserved_behind l.rest ≡ is_reserved_behind l.octets

abbrev pub decreases-loop-rest : goal.decreases-loop-rest
decreases-loop-rest l = length l.rest
