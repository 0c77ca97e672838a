use Rattle.extension_text.proofs.NamesLaws.WriteLaws.{nothing}
use Rattle.certificate_text.proofs.partial.write_optional_key.Goals as goal

pub returns-in-None : goal.returns-in-None
returns-in-None g c = rw c.in-None.is nothing

pub returns-in-Some : goal.returns-in-Some
returns-in-Some g c = rw c.in-Some.is c.write_key.ensures
