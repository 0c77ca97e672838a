use Rattle.x509_value_rules.proofs.reading.key_identifiers_break.Goals as goal

pub returns-in-Issuer : goal.returns-in-Issuer
returns-in-Issuer c = rw c.in-Issuer.is (λ w t h n. c.no_issuer_breaks.ensures w n)

pub returns-in_default : goal.returns-in_default
returns-in_default c = λ w t h n. c.read_breaks.ensures w t
