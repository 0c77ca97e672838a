use Rattle.std.proofs.Common.{refl}
use Rattle.der_cursor.proofs.Sequences.{input_left, input_read, input_stops}
use Rattle.der_extensions.specs.Lists.{list_octets}
use Rattle.der_extensions.proofs.ExtensionLaws.{wrapped}
use Rattle.der_extensions.proofs.list.read_list_of_any.Goals as goal

pub returns-in_err-octets : goal.returns-in_err-octets
returns-in_err-octets g c = input_stops c.new-input.ensures c.in_err-octets.ensures c.from_residual.ensures.1

pub returns-in-Err : goal.returns-in-Err
returns-in-Err g c = input_left c.from_refusal.result c.new-input.ensures c.in_ok-octets.ensures c.in-Err.ensures.0 refl

pub returns-in-Ok : goal.returns-in-Ok
returns-in-Ok g c = input_read {view = list_octets} c.new-input.ensures (wrapped refl c.in_ok-octets.ensures) c.in-Ok.ensures
