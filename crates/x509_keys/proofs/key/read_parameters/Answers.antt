use Rattle.std.proofs.Common.{refl}
use Rattle.x509.proofs.ReaderLaws.{any_read, finished, first, second, step, stop}
use Rattle.x509_keys.proofs.NameLaws.{passed}
use Rattle.x509_keys.proofs.key.read_parameters.Goals as goal

pub returns-then-is_empty : goal.returns-then-is_empty
returns-then-is_empty c = second (λ n. n (c.is_empty.ensures.0 c.if-is_empty.true)) (finished refl)

pub returns-in_err-any : goal.returns-in_err-any
returns-in_err-any c = passed c.from_residual.ensures.1 (first (λ e. let h = c.is_empty.ensures.1 e in cc) (stop (any_read c.in_err-any.ensures)))

pub returns : goal.returns
returns c = first (λ e. let h = c.is_empty.ensures.1 e in cc) (step (any_read c.in_ok-any.ensures) (finished refl))
