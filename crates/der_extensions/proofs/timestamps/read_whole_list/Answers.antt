use Rattle.der_cursor.proofs.Sequences.{input_left, input_read, input_stops}
use Rattle.der_extensions.proofs.timestamps.read_whole_list.Goals as goal

pub returns-in_err-list : goal.returns-in_err-list
returns-in_err-list c = input_stops c.new-input.ensures c.in_err-list.ensures c.from_residual.ensures.1

pub returns-in_err-end : goal.returns-in_err-end
returns-in_err-end c = input_left _ c.new-input.ensures c.in_ok-list.ensures c.in_err-end.ensures.0 c.from_residual-in_err-end.ensures.1

pub returns : goal.returns
returns c = input_read c.new-input.ensures c.in_ok-list.ensures c.in_ok-end.ensures
