use Rattle.x509_rules.proofs.crl.examined.mark_of.Goals as goal

pub returns-in-Some : goal.returns-in-Some
returns-in-Some c = let marks = rw c.in-Some.is at c.requires.entries in c.marked.ensures _ marks
