use Rattle.std.proofs.Common.{refl}
use Rattle.extension_text.proofs.NamesLaws.WriteLaws.{next}
use Rattle.der_show.proofs.rules.write_rules.Goals as goal

pub returns-clause-text : goal.returns-clause-text
returns-clause-text g c = rw c.examine-examined.ensures.certificate at (next c.in_ok-keeps_rules.ensures.text refl c.in_ok-write_broken.ensures.text)

pub returns-clause-rules : goal.returns-clause-rules
returns-clause-rules g c = rw c.examine-examined.ensures.certificate at c.in_ok-keeps_rules.ensures.rules
