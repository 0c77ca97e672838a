use Rattle.x509.proofs.PartialLaws.FieldLaws.{follows}
use Rattle.x509.proofs.CertificateLaws.{algorithm_exact}
use Rattle.x509.proofs.partial.fields.Fields.algorithm.Goals as goal

pub returns : goal.returns
returns c = follows _ _ algorithm_exact c.in_ok-fields.ensures c.read_algorithm-found.ensures c.after.ensures
