use Rattle.std.proofs.Common.{refl}
use Rattle.extension_text.proofs.NamesLaws.WriteLaws.{next, one}
use Rattle.certificate_text.proofs.certificate.write_certificate.Goals as goal

pub returns : goal.returns
returns g c = next (one c.in_ok-write_str.ensures.writes) refl (next c.in_ok-write_body.ensures refl c.write_seal.ensures)
