use Rattle.std.proofs.Common.{length}
use Rattle.x509.specs.Formats.{any}
use Rattle.x509.proofs.ReaderLaws.{Reaches}
use Rattle.x509_keys.proofs.request.attribute.check_values.Given as goal

-- the items so far
abbrev pub invariant-loop-list : goal.invariant-loop-list
invariant-loop-list l = Reaches any l.fn.list l.list

abbrev pub decreases-loop-list : goal.decreases-loop-list
decreases-loop-list l = length l.list.left.now
