use Rattle.std.proofs.Common.{◌≡◌, ◌<◌, ◌≤◌}
use Rattle.der_base.specs.Time.{at_least_digits, without_last_zeros}
use Rattle.der_values.proofs.octets.time.without_last_zeros.Given as goal

-- the zeros taken off so far don't count
abbrev pub invariant-loop-rest : goal.invariant-loop-rest
invariant-loop-rest l =
    record {
      some : 0 < l.rest;
      left : without_last_zeros (at_least_digits l.digits l.rest) ≡ without_last_zeros (at_least_digits 9 l.n);
      few : l.digits ≤ 9;
    }

abbrev pub decreases-loop-rest : goal.decreases-loop-rest
decreases-loop-rest l = l.rest
