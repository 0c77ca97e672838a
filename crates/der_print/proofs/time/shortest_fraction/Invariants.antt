use Rattle.std.proofs.Common.{◌≡◌, ◌+◌, ◌<◌, ◌≤◌, ◌^◌}
use Rattle.der_base.specs.Time.{at_least_digits, without_last_zeros}
use Rattle.der_print.proofs.time.shortest_fraction.Given as goal

abbrev pub invariant-loop-number : goal.invariant-loop-number
invariant-loop-number l =
    record {
      same : without_last_zeros (at_least_digits l.least l.number) ≡ without_last_zeros (at_least_digits 9 l.fn.nanosecond);
      some : 1 ≤ l.number;
      few : l.number < 10 ^ (l.least + 1);
    }

abbrev pub decreases-loop-number : goal.decreases-loop-number
decreases-loop-number l = l.number
