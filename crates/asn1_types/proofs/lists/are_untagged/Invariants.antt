use Rattle.std.proofs.Common.{◌≡◌, length}
use Rattle.asn1_types.specs.Tagging.{are_untagged}
use Rattle.asn1_types.proofs.lists.are_untagged.Given as goal

abbrev pub invariant-loop-member : goal.invariant-loop-member
invariant-loop-member l = are_untagged l.items l.ahead ≡ are_untagged l.items l.fn.members

abbrev pub decreases-loop-member : goal.decreases-loop-member
decreases-loop-member l = length l.ahead
