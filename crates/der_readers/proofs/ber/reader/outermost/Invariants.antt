use Rattle.std.proofs.Common.{◌-◌, ◌≤◌, length}
use Rattle.der_readers.proofs.ber.reader.outermost.Given as goal

abbrev pub decreases-loop-at : goal.decreases-loop-at
decreases-loop-at l = length l.spans - l.at

abbrev pub invariant-loop-at : goal.invariant-loop-at
invariant-loop-at l = 1 ≤ l.number → 1 ≤ length l.spans
