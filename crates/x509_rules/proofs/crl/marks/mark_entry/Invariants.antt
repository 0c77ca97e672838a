use Rattle.x509.specs.Crl.Lists.{revoked_of}
use Rattle.x509_rules.specs.Crl.Entries.{BreaksEntry}
use Rattle.x509_rules.specs.Crl.Marks.{marked_rule}
use Rattle.x509_rules.proofs.MarkLaws.{BreaksFrom, MarkedSoFar}
use Rattle.x509_rules.proofs.crl.marks.mark_entry.Given as goal

-- the rules before the place are marked, if they are broken
abbrev pub invariant-loop-place : goal.invariant-loop-place
invariant-loop-place l = MarkedSoFar (λ n. BreaksEntry (marked_rule n) (revoked_of l.fn.entry)) (BreaksFrom l.place (revoked_of l.fn.entry)) l.fn.marks l.marks
