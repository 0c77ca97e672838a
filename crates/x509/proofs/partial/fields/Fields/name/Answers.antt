use Rattle.x509.proofs.PartialLaws.FieldLaws.{follows}
use Rattle.x509.proofs.CertificateLaws.{name_exact}
use Rattle.x509.proofs.partial.fields.Fields.name.Goals as goal

pub returns : goal.returns
returns c = follows _ _ name_exact c.in_ok-fields.ensures c.read_name-found.ensures c.after.ensures
