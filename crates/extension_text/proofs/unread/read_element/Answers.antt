use Rattle.der_cursor.proofs.FormatLaws.{any_read}
use Rattle.extension_text.proofs.unread.read_element.Goals as goal

pub returns : goal.returns
returns c = any_read c.any.ensures
