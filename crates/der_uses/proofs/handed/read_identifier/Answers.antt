use Rattle.der_parser.proofs.FormatLaws.{value_read}
use Rattle.der_uses.proofs.handed.read_identifier.Goals as goal

pub returns : goal.returns
returns c = value_read _ c.oid.ensures
