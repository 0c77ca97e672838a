use Rattle.x509_rules.proofs.crl.entries.is_entry_broken.Goals as goal

pub returns-in-Some : goal.returns-in-Some
returns-in-Some c = rw c.in-Some.is c.is_one_broken.ensures
