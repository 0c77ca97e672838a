use Rattle.std.proofs.Common.{refl}
use Rattle.der_values.specs.Kinds.{integers}
use Rattle.x509.proofs.ReaderLaws.{finished, step, stop, value_read}
use Rattle.x509_keys.proofs.NameLaws.{named_read, passed}
use Rattle.x509_keys.proofs.rsa.read_primes.Goals as goal

pub returns-in_err-prime1 : goal.returns-in_err-prime1
returns-in_err-prime1 c = passed c.from_residual.ensures.1 (stop (named_read _ (value_read integers 2 c.integer.ensures) c.in_err-prime1.ensures))

pub returns-in_err-prime2 : goal.returns-in_err-prime2
returns-in_err-prime2 c = passed c.from_residual-in_err-prime2.ensures.1 (step (named_read _ (value_read integers 2 c.integer.ensures) c.in_ok-prime1.ensures) (stop (named_read _ (value_read integers 2 c.integer-2.ensures) c.in_err-prime2.ensures)))

pub returns-in_err-exponent1 : goal.returns-in_err-exponent1
returns-in_err-exponent1 c = passed c.from_residual-in_err-exponent1.ensures.1 (step (named_read _ (value_read integers 2 c.integer.ensures) c.in_ok-prime1.ensures) (step (named_read _ (value_read integers 2 c.integer-2.ensures) c.in_ok-prime2.ensures) (stop (named_read _ (value_read integers 2 c.integer-3.ensures) c.in_err-exponent1.ensures))))

pub returns-in_err-exponent2 : goal.returns-in_err-exponent2
returns-in_err-exponent2 c = passed c.from_residual-in_err-exponent2.ensures.1 (step (named_read _ (value_read integers 2 c.integer.ensures) c.in_ok-prime1.ensures) (step (named_read _ (value_read integers 2 c.integer-2.ensures) c.in_ok-prime2.ensures) (step (named_read _ (value_read integers 2 c.integer-3.ensures) c.in_ok-exponent1.ensures) (stop (named_read _ (value_read integers 2 c.integer-4.ensures) c.in_err-exponent2.ensures)))))

pub returns-in_err-coefficient : goal.returns-in_err-coefficient
returns-in_err-coefficient c = passed c.from_residual-in_err-coefficient.ensures.1 (step (named_read _ (value_read integers 2 c.integer.ensures) c.in_ok-prime1.ensures) (step (named_read _ (value_read integers 2 c.integer-2.ensures) c.in_ok-prime2.ensures) (step (named_read _ (value_read integers 2 c.integer-3.ensures) c.in_ok-exponent1.ensures) (step (named_read _ (value_read integers 2 c.integer-4.ensures) c.in_ok-exponent2.ensures) (stop (named_read _ (value_read integers 2 c.integer-5.ensures) c.in_err-coefficient.ensures))))))

pub returns : goal.returns
returns c = step (named_read _ (value_read integers 2 c.integer.ensures) c.in_ok-prime1.ensures) (step (named_read _ (value_read integers 2 c.integer-2.ensures) c.in_ok-prime2.ensures) (step (named_read _ (value_read integers 2 c.integer-3.ensures) c.in_ok-exponent1.ensures) (step (named_read _ (value_read integers 2 c.integer-4.ensures) c.in_ok-exponent2.ensures) (step (named_read _ (value_read integers 2 c.integer-5.ensures) c.in_ok-coefficient.ensures) (finished refl)))))
