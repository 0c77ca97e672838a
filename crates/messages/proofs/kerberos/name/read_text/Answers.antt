use Rattle.der_cursor.proofs.FormatLaws.{value_read}
use Rattle.messages.proofs.kerberos.name.read_text.Goals as goal

pub returns : goal.returns
returns c = value_read _ c.general_string.ensures
