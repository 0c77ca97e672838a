use Rattle.std.proofs.Common.{refl}
use Rattle.extension_text.proofs.NamesLaws.WriteLaws.{next, one}
use Rattle.certificate_text.proofs.request.write_request.Goals as goal

pub returns : goal.returns
returns g c = next (one c.in_ok-write_str.ensures.writes) refl (next c.in_ok-write_info.ensures refl (next c.in_ok-write_identifier_line.ensures refl (one c.write_signature.ensures)))
