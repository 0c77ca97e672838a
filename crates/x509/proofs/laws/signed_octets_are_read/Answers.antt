use Rattle.x509.proofs.SignedLaws.{signed_octets_are_read}
use Rattle.x509.proofs.laws.signed_octets_are_read.Goals as goal

pub returns : goal.returns
returns c = signed_octets_are_read
