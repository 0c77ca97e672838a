use Rattle.std.proofs.Common.{length}
use Rattle.x509_keys.specs.Request.Requests.{attribute}
use Rattle.x509.proofs.ReaderLaws.{Reaches}
use Rattle.x509_keys.proofs.request.attribute.check_attributes.Given as goal

-- the items so far
abbrev pub invariant-loop-list : goal.invariant-loop-list
invariant-loop-list l = Reaches attribute l.fn.list l.list

abbrev pub decreases-loop-list : goal.decreases-loop-list
decreases-loop-list l = length l.list.left.now
