use Rattle.x509_keys.proofs.RequestLaws.WriterLaws.StrictlyRead.{infos_read, signed_read}
use Rattle.x509_keys.proofs.request.writer.laws.requests_are_read.Goals as goal

pub returns : goal.returns
returns c = record { infos = infos_read; signed = signed_read }
