use Rattle.std.proofs.Common.{◌≡◌, ◌≤◌, length, take}
use Rattle.der_writer.specs.Octets.{without_last_zeros}
use Rattle.der_writer.proofs.named_bits.without_last_zeros.Given as goal

-- the zeros behind the end don't count
abbrev pub invariant-loop-end : goal.invariant-loop-end
invariant-loop-end l = record {
  within : l.end ≤ length l.given;
  same : without_last_zeros (take l.end l.given) ≡ without_last_zeros l.given;
}

abbrev pub decreases-loop-end : goal.decreases-loop-end
decreases-loop-end l = l.end
