use Rattle.x509_value_rules.proofs.reading.Reading.breaks.Goals as goal

pub returns-in-Sound : goal.returns-in-Sound
returns-in-Sound c = rw c.in-Sound.is (λ w r. c.sound_breaks.ensures w r)

pub returns-in-Constraints : goal.returns-in-Constraints
returns-in-Constraints c = rw c.in-Constraints.is (λ w r. c.read_breaks.ensures w r.0)

pub returns-in-KeyUsage : goal.returns-in-KeyUsage
returns-in-KeyUsage c = rw c.in-KeyUsage.is (λ w r. c.read_breaks-in-KeyUsage.ensures w r.0)

pub returns-in-KeyIdentifiers : goal.returns-in-KeyIdentifiers
returns-in-KeyIdentifiers c = rw c.in-KeyIdentifiers.is (λ w r. c.key_identifiers_break.ensures w r.0 r.2 r.3)
