use Rattle.der_values.specs.Kinds.{identifiers}
use Rattle.der_cursor.proofs.FormatLaws.{value_read}
use Rattle.der_extensions.proofs.extended_key_usage.ObjectIdentifierItemBerError.read.Goals as goal

pub returns : goal.returns
returns c = value_read (λ r. identifiers) c.oid.ensures
