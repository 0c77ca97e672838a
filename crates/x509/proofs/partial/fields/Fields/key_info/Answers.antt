use Rattle.x509.proofs.PartialLaws.FieldLaws.{follows}
use Rattle.x509.proofs.CertificateLaws.{key_exact}
use Rattle.x509.proofs.partial.fields.Fields.key_info.Goals as goal

pub returns : goal.returns
returns c = follows _ _ key_exact c.in_ok-fields.ensures c.read_key_info-found.ensures c.after.ensures
