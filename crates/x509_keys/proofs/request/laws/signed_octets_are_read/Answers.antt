use Rattle.x509_keys.proofs.RequestLaws.SignedLaws.{signed_octets_are_read}
use Rattle.x509_keys.proofs.request.laws.signed_octets_are_read.Goals as goal

pub returns : goal.returns
returns c = signed_octets_are_read
