use Rattle.x509_value_rules.proofs.reading.read_breaks.Goals as goal

pub returns-in-OfType : goal.returns-in-OfType
returns-in-OfType c = rw c.in-OfType.is c.is_no_other.ensures
