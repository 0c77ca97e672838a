use Rattle.std.proofs.Common.{refl}
use Rattle.der_cursor.proofs.Sequences.{input_left, input_read, input_stops}
use Rattle.der_extensions.proofs.list.read_list.Goals as goal

pub returns-in_err-list : goal.returns-in_err-list
returns-in_err-list g c = input_stops c.new-input.ensures c.in_err-list.ensures c.from_residual.ensures.1

pub returns-in-Err : goal.returns-in-Err
returns-in-Err g c = input_left c.from_refusal.result c.new-input.ensures c.in_ok-list.ensures c.in-Err.ensures.0 refl

pub returns-in-Ok : goal.returns-in-Ok
returns-in-Ok g c = input_read c.new-input.ensures c.in_ok-list.ensures c.in-Ok.ensures
