use Rattle.std.proofs.Common.{true, refl}
use Rattle.x509.proofs.ReaderLaws.{finished, first, second, step, stop, type_read}
use Rattle.x509_keys.proofs.NameLaws.{passed}
use Rattle.x509_keys.proofs.rsa.open_other_primes.Goals as goal

pub returns-in_err-open_sequence : goal.returns-in_err-open_sequence
returns-in_err-open_sequence c = passed c.from_residual.ensures.1 (first (c.is_next.ensures.0 c.if-is_next.true) (stop (type_read true 16 c.in_err-open_sequence.ensures)))

pub returns-then-is_next : goal.returns-then-is_next
returns-then-is_next c = first (c.is_next.ensures.0 c.if-is_next.true) (step (type_read true 16 c.in_ok-open_sequence.ensures) (finished refl))

pub returns : goal.returns
returns c = second (λ h. let e = c.is_next.ensures.1 h in cc) (finished refl)
