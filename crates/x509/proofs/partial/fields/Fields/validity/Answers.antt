use Rattle.x509.proofs.PartialLaws.FieldLaws.{follows_same}
use Rattle.x509.proofs.CertificateLaws.{validity_exact}
use Rattle.x509.proofs.partial.fields.Fields.validity.Goals as goal

pub returns : goal.returns
returns c = follows_same _ _ validity_exact c.in_ok-fields.ensures c.read_validity-found.ensures c.after.ensures
