use Rattle.std.proofs.Common.{refl}
use Rattle.extension_text.proofs.NamesLaws.WriteLaws.{next, one}
use Rattle.certificate_text.proofs.certificate.write_identity.Goals as goal

pub returns : goal.returns
returns g c = next (one c.in_ok-write_version.ensures) refl (next (one c.in_ok-write_serial_line.ensures) refl (next c.in_ok-write_identifier_line.ensures refl c.write_name_line.ensures))
