use Rattle.std.proofs.Common.{refl}
use Rattle.der_values.specs.Kinds.{integers}
use Rattle.x509.proofs.ReaderLaws.{finished, step, stop, value_read}
use Rattle.x509_keys.proofs.NameLaws.{named_read, passed}
use Rattle.x509_keys.proofs.rsa.read_exponents.Goals as goal

pub returns-in_err-modulus : goal.returns-in_err-modulus
returns-in_err-modulus c = passed c.from_residual.ensures.1 (stop (named_read _ (value_read integers 2 c.integer.ensures) c.in_err-modulus.ensures))

pub returns-in_err-public_exponent : goal.returns-in_err-public_exponent
returns-in_err-public_exponent c = passed c.from_residual-in_err-public_exponent.ensures.1 (step (named_read _ (value_read integers 2 c.integer.ensures) c.in_ok-modulus.ensures) (stop (named_read _ (value_read integers 2 c.integer-2.ensures) c.in_err-public_exponent.ensures)))

pub returns-in_err-private_exponent : goal.returns-in_err-private_exponent
returns-in_err-private_exponent c = passed c.from_residual-in_err-private_exponent.ensures.1 (step (named_read _ (value_read integers 2 c.integer.ensures) c.in_ok-modulus.ensures) (step (named_read _ (value_read integers 2 c.integer-2.ensures) c.in_ok-public_exponent.ensures) (stop (named_read _ (value_read integers 2 c.integer-3.ensures) c.in_err-private_exponent.ensures))))

pub returns : goal.returns
returns c = step (named_read _ (value_read integers 2 c.integer.ensures) c.in_ok-modulus.ensures) (step (named_read _ (value_read integers 2 c.integer-2.ensures) c.in_ok-public_exponent.ensures) (step (named_read _ (value_read integers 2 c.integer-3.ensures) c.in_ok-private_exponent.ensures) (finished refl)))
