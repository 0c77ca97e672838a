use Rattle.x509.specs.Crl.Lists.{entries_left, revoked_certificate}
use Rattle.x509.specs.Lists.{Somewhere}
use Rattle.x509_rules.specs.Crl.Entries.{BreaksEntry}
use Rattle.x509_rules.specs.Crl.Marks.{marked_rule}
use Rattle.x509_rules.proofs.MarkLaws.{MarkedSoFar}
use Rattle.x509_rules.proofs.crl.marks.mark_entries.Given as goal

-- the rules that the entries so far break are marked
abbrev pub invariant-loop-entry : goal.invariant-loop-entry
invariant-loop-entry l = MarkedSoFar (λ n. Somewhere revoked_certificate (λ e _. BreaksEntry (marked_rule n) e) l.fn.entries.octets.now) (λ n. Somewhere revoked_certificate (λ e _. BreaksEntry (marked_rule n) e) (entries_left l.entry-iterator)) l.fn.marks l.marks
