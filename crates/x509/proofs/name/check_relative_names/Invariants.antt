use Rattle.std.proofs.Common.{length}
use Rattle.x509.specs.Certificates.{relative_name}
use Rattle.x509.proofs.ReaderLaws.{Reaches}
use Rattle.x509.proofs.name.check_relative_names.Given as goal

-- the items so far
abbrev pub invariant-loop-names : goal.invariant-loop-names
invariant-loop-names l = Reaches relative_name l.fn.names l.names

abbrev pub decreases-loop-names : goal.decreases-loop-names
decreases-loop-names l = length l.names.left.now
