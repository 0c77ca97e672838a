use Rattle.x509_rules.proofs.MarkLaws.{all_marks}
use Rattle.x509_rules.proofs.crl.marks.marks_of.Goals as goal

pub returns-in-Some : goal.returns-in-Some
returns-in-Some c = rw c.in-Some.is (all_marks c.mark_entries.ensures)
