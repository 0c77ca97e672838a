use Rattle.std.proofs.Common.{◌≡◌, ◌≤◌, length, take, reverse}
use Rattle.der_input.specs.Blocks.{begins_line_after}
use Rattle.der_input.proofs.pem.begins_line.Given as goal

abbrev pub invariant-octets : goal.invariant-octets
invariant-octets l = record {
  within : l.end ≤ length l.before;
  same : begins_line_after (reverse l.before) ≡ begins_line_after (reverse (take l.end l.before));
}

abbrev pub decreases-octets : goal.decreases-octets
decreases-octets l = l.end
