use Rattle.std.proofs.Common.{Some, None, refl}
use Rattle.x509_keys.specs.OtherKeys.{rsa_public_of}
use Rattle.c_formats.proofs.key_kind.modulus_bits.Goals as goal

pub returns-in-Ok : goal.returns-in-Ok
returns-in-Ok c = (Some (rsa_public_of c.in-Ok.found), c.in-Ok.ensures.found, c.bits_of.ensures)

pub returns-in-Err : goal.returns-in-Err
returns-in-Err c = (None, (λ v h. c.in-Err.ensures.only v h), refl)
