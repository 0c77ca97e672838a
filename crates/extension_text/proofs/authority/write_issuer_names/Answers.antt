use Rattle.std.proofs.Common.{refl}
use Rattle.extension_text.proofs.NamesLaws.WriteLaws.{next, one}
use Rattle.extension_text.proofs.authority.write_issuer_names.Goals as goal

pub returns-in_ok-write-in-Some : goal.returns-in_ok-write-in-Some
returns-in_ok-write-in-Some g c = rw c.in-Some.is (next (one c.in_ok-write-in-Some.ensures.writes) refl c.write_general_names.ensures)
