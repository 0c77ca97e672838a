use Rattle.std.proofs.Common.{refl}
use Rattle.der_cursor.proofs.Sequences.{input_left, input_read, input_stops}
use Rattle.der_extensions.proofs.ExtensionLaws.{wrapped}
use Rattle.der_extensions.specs.Extensions.{usage_of}
use Rattle.der_extensions.proofs.key_usage.read_whole_usage.Goals as goal

pub returns-in_err-bits : goal.returns-in_err-bits
returns-in_err-bits c = input_stops c.new-input.ensures c.in_err-bits.ensures c.from_residual.ensures.1

pub returns-in_err-end : goal.returns-in_err-end
returns-in_err-end c = input_left _ c.new-input.ensures c.in_ok-bits.ensures c.in_err-end.ensures.0 c.from_residual-in_err-end.ensures.1

pub returns : goal.returns
returns c = input_read {view = usage_of} c.new-input.ensures (wrapped refl c.in_ok-bits.ensures) c.in_ok-end.ensures
