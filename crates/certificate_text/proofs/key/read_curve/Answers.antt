use Rattle.der_values.specs.Kinds.{identifiers}
use Rattle.der_cursor.proofs.FormatLaws.{value_read}
use Rattle.der_cursor.proofs.Sequences.{input_left, input_read, input_stops}
use Rattle.certificate_text.proofs.key.read_curve.Goals as goal

pub returns-in_err-curve : goal.returns-in_err-curve
returns-in_err-curve c = input_stops c.new-input.ensures (value_read (λ r. identifiers) c.in_err-curve.ensures) c.from_residual.ensures.1

pub returns-in_err-end : goal.returns-in_err-end
returns-in_err-end c = input_left _ c.new-input.ensures (value_read (λ r. identifiers) c.in_ok-curve.ensures) c.in_err-end.ensures.0 c.from_residual-in_err-end.ensures.1

pub returns : goal.returns
returns c = input_read c.new-input.ensures (value_read (λ r. identifiers) c.in_ok-curve.ensures) c.in_ok-end.ensures
