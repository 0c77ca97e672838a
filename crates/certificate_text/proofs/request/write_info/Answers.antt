use Rattle.std.proofs.Common.{refl}
use Rattle.extension_text.proofs.NamesLaws.WriteLaws.{next, one}
use Rattle.certificate_text.proofs.request.write_info.Goals as goal

pub returns : goal.returns
returns g c = next (one c.in_ok-write_str.ensures.writes) refl (next c.in_ok-write_name_line.ensures refl (next c.in_ok-write_key.ensures refl c.write_attributes.ensures))
