use Rattle.der_cursor.proofs.FormatLaws.{value_read}
use Rattle.messages.proofs.kerberos.request.read_kind.Goals as goal

pub returns : goal.returns
returns c = value_read _ c.i32.ensures
