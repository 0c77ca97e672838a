use Rattle.x509_value_rules.proofs.names.is_one_name_broken.Goals as goal

pub returns-in-Some : goal.returns-in-Some
returns-in-Some c = rw c.in-Some.is c.has_broken_name.ensures
