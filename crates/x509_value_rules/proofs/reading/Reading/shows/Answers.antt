use Rattle.x509_value_rules.proofs.reading.Reading.shows.Goals as goal

pub returns-in-Says : goal.returns-in-Says
returns-in-Says c = rw c.in-Says.is (λ b w r. c.says.ensures w r)

pub returns-in-Breaks : goal.returns-in-Breaks
returns-in-Breaks c = rw c.in-Breaks.is (λ b w r. c.breaks.ensures w r)
