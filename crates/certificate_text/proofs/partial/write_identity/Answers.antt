use Rattle.std.proofs.Common.{refl}
use Rattle.extension_text.proofs.NamesLaws.WriteLaws.{next, one}
use Rattle.certificate_text.proofs.partial.write_identity.Goals as goal

pub returns : goal.returns
returns g c = next (one c.in_ok-write_optional_version.ensures) refl (next (one c.in_ok-write_optional_serial.ensures) refl (next c.in_ok-write_optional_algorithm.ensures refl c.write_optional_name.ensures))
