use Rattle.std.proofs.Common.{◌≡◌, ◌^◌, ◌<◌, ◌≤◌, drop, length}
use Rattle.der_base.specs.Octets.{groups_before, groups}
use Rattle.dumarewhi_c.proofs.identifier.put_subidentifier.Given as goal

-- what is left of the number goes in front of the groups so far, and has room there
abbrev pub invariant-loop-rest : goal.invariant-loop-rest
invariant-loop-rest l = record {
  written : groups_before l.rest l.rest (drop l.begin l.last_groups) ≡ groups l.number;
  room : l.rest < 128 ^ l.begin;
  within : l.begin ≤ 18;
  size : length l.last_groups ≡ 19;
}

abbrev pub decreases-loop-rest : goal.decreases-loop-rest
decreases-loop-rest l = l.rest
