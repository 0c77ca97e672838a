use Rattle.std.proofs.Common.{◌≡◌, ◌≤◌, ◌++◌, drop, length}
use Rattle.der_base.specs.Octets.{groups_before, groups}
use Rattle.der_values.proofs.octets.header.write_groups.Given as goal

-- what is left of the number goes in front of the groups so far
abbrev pub invariant-loop-rest : goal.invariant-loop-rest
invariant-loop-rest l = record {
  written : groups_before l.rest l.rest (drop l.begin l.out) ≡ groups l.n ++ drop l.end l.fn.out;
  within : l.begin ≤ l.end;
  size : length l.out ≡ length l.fn.out;
}

abbrev pub decreases-loop-rest : goal.decreases-loop-rest
decreases-loop-rest l = l.rest
