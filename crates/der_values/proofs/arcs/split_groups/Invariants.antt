use Rattle.std.proofs.Common.{ℕ, ◌<◌, ◌≤◌, get_or}
use Rattle.der_values.proofs.arcs.split_groups.Given as goal

-- the octets that were passed end nothing
abbrev pub invariant-loop-index : goal.invariant-loop-index
invariant-loop-index l = (k : ℕ) → k < l.index → 128 ≤ get_or l.octets k 0
