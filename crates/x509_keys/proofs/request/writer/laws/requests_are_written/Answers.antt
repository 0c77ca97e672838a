use Rattle.x509_keys.proofs.RequestLaws.WriterLaws.Read.{request_only}
use Rattle.x509_keys.proofs.RequestLaws.WriterLaws.Strict.{infos_written}
use Rattle.x509_keys.proofs.request.writer.laws.requests_are_written.Goals as goal

pub returns : goal.returns
returns c = record { values = request_only; strict = infos_written }
