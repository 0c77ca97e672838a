use Rattle.der_values.specs.Kinds.{integers}
use Rattle.der_cursor.proofs.FormatLaws.{value_read}
use Rattle.der_cursor.proofs.Sequences.{input_left, input_read, input_stops}
use Rattle.x509_rule_facts.proofs.readers.read_number.Goals as goal

pub returns-in_err-number : goal.returns-in_err-number
returns-in_err-number c = input_stops c.new-input.ensures (value_read integers c.in_err-number.ensures) c.from_residual.ensures.1

pub returns-in_err-end : goal.returns-in_err-end
returns-in_err-end c = input_left _ c.new-input.ensures (value_read integers c.in_ok-number.ensures) c.in_err-end.ensures.0 c.from_residual-in_err-end.ensures.1

pub returns : goal.returns
returns c = input_read c.new-input.ensures (value_read integers c.in_ok-number.ensures) c.in_ok-end.ensures
