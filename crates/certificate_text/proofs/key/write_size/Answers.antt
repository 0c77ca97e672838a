use Rattle.std.proofs.Common.{inl, inr}
use Rattle.extension_text.proofs.NamesLaws.WriteLaws.{one, restated}
use Rattle.x509_keys.specs.OtherKeys.{rsa_public_of}
use Rattle.certificate_text.proofs.key.write_size.Goals as goal

pub returns-in-Ok : goal.returns-in-Ok
returns-in-Ok g c = restated (λ t x. inl (rsa_public_of c.in-Ok.key, c.in-Ok.ensures.found, x)) (one c.write_bits.ensures)

pub returns-in-Err : goal.returns-in-Err
returns-in-Err g c = restated (λ t x. inr ((λ k so. c.in-Err.ensures.only k so), x)) (one c.write_octets.ensures)
