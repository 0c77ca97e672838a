use Rattle.std.proofs.Common.{refl}
use Rattle.extension_text.proofs.NamesLaws.WriteLaws.{next, one}
use Rattle.certificate_text.proofs.certificate.write_seal.Goals as goal

pub returns : goal.returns
returns g c = next (one c.in_ok-write_signature.ensures) refl (one c.write_digests.ensures)
