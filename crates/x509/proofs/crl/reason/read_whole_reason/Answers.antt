use Rattle.der_cursor.proofs.Sequences.{input_left, input_read, input_stops}
use Rattle.x509.proofs.crl.reason.read_whole_reason.Goals as goal

pub returns-in_err-reason : goal.returns-in_err-reason
returns-in_err-reason c = input_stops c.new-value.ensures c.in_err-reason.ensures c.from_residual.ensures.1

pub returns-in_err-end : goal.returns-in_err-end
returns-in_err-end c = input_left _ c.new-value.ensures c.in_ok-reason.ensures c.in_err-end.ensures.0 c.from_residual-in_err-end.ensures.1

pub returns : goal.returns
returns c = input_read c.new-value.ensures c.in_ok-reason.ensures c.in_ok-end.ensures
