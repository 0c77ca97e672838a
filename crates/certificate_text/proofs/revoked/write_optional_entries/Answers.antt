use Rattle.std.proofs.Common.{refl}
use Rattle.extension_text.proofs.NamesLaws.WriteLaws.{next, one}
use Rattle.certificate_text.proofs.revoked.write_optional_entries.Goals as goal

pub returns-in_ok-write_str-in-Some : goal.returns-in_ok-write_str-in-Some
returns-in_ok-write_str-in-Some g c = rw c.in-Some.is (next (one c.in_ok-write_str-in-Some.ensures.writes) refl c.write_entries.ensures)
