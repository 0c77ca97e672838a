use Rattle.std.proofs.Common.{length}
use Rattle.x509.specs.Certificates.{attribute}
use Rattle.x509.proofs.ReaderLaws.{Reaches}
use Rattle.x509.proofs.name.check_attributes.Given as goal

-- the items so far
abbrev pub invariant-loop-attributes : goal.invariant-loop-attributes
invariant-loop-attributes l = Reaches attribute l.fn.attributes l.attributes

abbrev pub decreases-loop-attributes : goal.decreases-loop-attributes
decreases-loop-attributes l = length l.attributes.left.now
