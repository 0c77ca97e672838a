use Rattle.std.proofs.Common.{refl}
use Rattle.extension_text.proofs.NamesLaws.WriteLaws.{next, one}
use Rattle.certificate_text.proofs.revoked.write_entry.Goals as goal

pub returns : goal.returns
returns g c = next (one c.in_ok-write.ensures.writes) refl (next (one c.in_ok-write_time.ensures) refl c.write_entry_extensions.ensures)
