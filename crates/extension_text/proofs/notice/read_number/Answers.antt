use Rattle.der_values.specs.Kinds.{integers}
use Rattle.der_cursor.proofs.FormatLaws.{value_read}
use Rattle.extension_text.proofs.notice.read_number.Goals as goal

pub returns : goal.returns
returns c = value_read (λ r. integers r) c.integer.ensures
