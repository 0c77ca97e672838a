use Rattle.der_cursor.proofs.Sequences.{input_left, input_read, input_stops}
use Rattle.der_extensions.proofs.organization_identifier.read_whole_identifier.Goals as goal

pub returns-in_err-identifier : goal.returns-in_err-identifier
returns-in_err-identifier c = input_stops c.new-input.ensures c.in_err-identifier.ensures c.from_residual.ensures.1

pub returns-in_err-end : goal.returns-in_err-end
returns-in_err-end c = input_left _ c.new-input.ensures c.in_ok-identifier.ensures c.in_err-end.ensures.0 c.from_residual-in_err-end.ensures.1

pub returns : goal.returns
returns c = input_read c.new-input.ensures c.in_ok-identifier.ensures c.in_ok-end.ensures
