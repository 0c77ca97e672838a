use Rattle.x509.proofs.PartialLaws.FieldLaws.{follows}
use Rattle.der_values.specs.Kinds.{integers}
use Rattle.x509.proofs.ReaderLaws.{value_read}
use Rattle.x509.proofs.PartialLaws.PartialLaws.{number_exact}
use Rattle.x509.proofs.partial.fields.Fields.integer.Goals as goal

pub returns : goal.returns
returns c = follows _ _ number_exact c.in_ok-fields.ensures (value_read (λ r. integers r) 2 c.integer-found.ensures) c.after.ensures
