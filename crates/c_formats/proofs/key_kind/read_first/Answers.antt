use Rattle.der_cursor.specs.Formats.{Integer, Required}
use Rattle.der_cursor.proofs.FormatLaws.{value_read}
use Rattle.der_cursor.proofs.Sequences.{at_start, first_read}
use Rattle.der_values.specs.Kinds.{integers}
use Rattle.c_formats.specs.KeyKinds.{FirstInteger}
use Rattle.c_formats.proofs.key_kind.read_first.Goals as goal

pub returns : goal.returns
returns c = at_start FirstInteger c.new-fields.result c.new-fields.ensures (first_read (Required Integer) c.integer.result (value_read integers c.integer.ensures))
