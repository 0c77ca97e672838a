use Rattle.std.proofs.Common.{refl}
use Rattle.der_values.specs.Kinds.{bit_strings}
use Rattle.x509.proofs.ReaderLaws.{end_read, finished, step, stop, value_read, whole}
use Rattle.x509_keys.proofs.NameLaws.{passed}
use Rattle.x509_keys.proofs.curve.read_last_bits.Goals as goal

pub returns-in_err-bits : goal.returns-in_err-bits
returns-in_err-bits c = whole (passed c.from_residual.ensures.1 (stop (value_read bit_strings 3 c.in_err-bits.ensures)))

pub returns-in_err-end : goal.returns-in_err-end
returns-in_err-end c = whole (passed c.from_residual-in_err-end.ensures.1 (step (value_read bit_strings 3 c.in_ok-bits.ensures) (stop (end_read c.in_err-end.ensures))))

pub returns : goal.returns
returns c = whole (step (value_read bit_strings 3 c.in_ok-bits.ensures) (step (end_read c.in_ok-end.ensures) (finished refl)))
