use Rattle.x509.proofs.PartialLaws.FieldLaws.{follows_same}
use Rattle.x509.proofs.PartialLaws.PartialLaws.{version_exact}
use Rattle.x509.proofs.partial.fields.Fields.version.Goals as goal

pub returns : goal.returns
returns c = follows_same _ _ version_exact c.in_ok-fields.ensures c.read_version-found.ensures c.after.ensures
