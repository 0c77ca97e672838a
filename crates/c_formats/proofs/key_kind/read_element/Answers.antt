use Rattle.der_cursor.proofs.FormatLaws.{any_read}
use Rattle.der_cursor.proofs.Sequences.{input_left, input_read, input_stops}
use Rattle.c_formats.proofs.key_kind.read_element.Goals as goal

pub returns-in_err-element : goal.returns-in_err-element
returns-in_err-element c = input_stops c.new-input.ensures (any_read c.in_err-element.ensures) c.from_residual.ensures.1

pub returns-in_err-end : goal.returns-in_err-end
returns-in_err-end c = input_left _ c.new-input.ensures (any_read c.in_ok-element.ensures) c.in_err-end.ensures.0 c.from_residual-in_err-end.ensures.1

pub returns : goal.returns
returns c = input_read c.new-input.ensures (any_read c.in_ok-element.ensures) c.in_ok-end.ensures
