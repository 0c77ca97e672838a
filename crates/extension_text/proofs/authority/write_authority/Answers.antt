use Rattle.std.proofs.Common.{refl}
use Rattle.extension_text.proofs.NamesLaws.WriteLaws.{next, one}
use Rattle.extension_text.proofs.authority.write_authority.Goals as goal

pub returns : goal.returns
returns g c = next (one c.in_ok-write_optional_octets.ensures) refl (next c.in_ok-write_issuer_names.ensures refl (one c.write_optional_serial.ensures))
