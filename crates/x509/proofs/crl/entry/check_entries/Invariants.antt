use Rattle.std.proofs.Common.{length}
use Rattle.x509.specs.Crl.Lists.{revoked_certificate}
use Rattle.x509.proofs.ReaderLaws.{Reaches}
use Rattle.x509.proofs.crl.entry.check_entries.Given as goal

-- the items so far
abbrev pub invariant-loop-list : goal.invariant-loop-list
invariant-loop-list l = Reaches revoked_certificate l.fn.list l.list

abbrev pub decreases-loop-list : goal.decreases-loop-list
decreases-loop-list l = length l.list.left.now
