use Rattle.std.proofs.Common.{true, refl}
use Rattle.der_values.specs.Kinds.{integers}
use Rattle.x509.proofs.ReaderLaws.{end_read, finished, step, stop, type_read, value_read}
use Rattle.x509_keys.proofs.NameLaws.{in_sequence, named_read, passed}
use Rattle.x509_keys.proofs.public.read_numbers.Goals as goal

pub returns-in_err-numbers : goal.returns-in_err-numbers
returns-in_err-numbers c = passed c.from_residual.ensures.1 (stop (named_read _ (type_read true 16 c.open_sequence.ensures) c.in_err-numbers.ensures))

pub returns-in_err-modulus : goal.returns-in_err-modulus
returns-in_err-modulus c = passed c.from_residual-in_err-modulus.ensures.1 (in_sequence _ _ c.open_sequence.ensures c.in_ok-numbers.ensures (stop (named_read _ (value_read integers 2 c.integer.ensures) c.in_err-modulus.ensures)))

pub returns-in_err-public_exponent : goal.returns-in_err-public_exponent
returns-in_err-public_exponent c = passed c.from_residual-in_err-public_exponent.ensures.1 (in_sequence _ _ c.open_sequence.ensures c.in_ok-numbers.ensures (step (named_read _ (value_read integers 2 c.integer.ensures) c.in_ok-modulus.ensures) (stop (named_read _ (value_read integers 2 c.integer-2.ensures) c.in_err-public_exponent.ensures))))

pub returns-in_err-named : goal.returns-in_err-named
returns-in_err-named c = passed c.from_residual-in_err-named.ensures.1 (in_sequence _ _ c.open_sequence.ensures c.in_ok-numbers.ensures (step (named_read _ (value_read integers 2 c.integer.ensures) c.in_ok-modulus.ensures) (step (named_read _ (value_read integers 2 c.integer-2.ensures) c.in_ok-public_exponent.ensures) (stop (named_read _ (end_read c.end.ensures) c.in_err-named.ensures)))))

pub returns : goal.returns
returns c = in_sequence _ _ c.open_sequence.ensures c.in_ok-numbers.ensures (step (named_read _ (value_read integers 2 c.integer.ensures) c.in_ok-modulus.ensures) (step (named_read _ (value_read integers 2 c.integer-2.ensures) c.in_ok-public_exponent.ensures) (step (named_read _ (end_read c.end.ensures) c.in_ok-named.ensures) (finished refl))))
