use Rattle.std.proofs.Common.{◌-◌, ◌≤◌, length}
use Rattle.asn1_names.proofs.classes.end_of_group.Given as goal

abbrev pub invariant-loop-token : goal.invariant-loop-token
invariant-loop-token l = l.end ≤ length l.group

abbrev pub decreases-loop-token : goal.decreases-loop-token
decreases-loop-token l = length l.group - l.end
