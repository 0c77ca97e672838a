use Rattle.std.proofs.Common.{refl}
use Rattle.x509.proofs.ReaderLaws.{any_read, end_read, finished, step, stop, whole}
use Rattle.x509_keys.proofs.NameLaws.{passed}
use Rattle.x509_keys.proofs.curve.read_last_element.Goals as goal

pub returns-in_err-element : goal.returns-in_err-element
returns-in_err-element c = whole (passed c.from_residual.ensures.1 (stop (any_read c.in_err-element.ensures)))

pub returns-in_err-end : goal.returns-in_err-end
returns-in_err-end c = whole (passed c.from_residual-in_err-end.ensures.1 (step (any_read c.in_ok-element.ensures) (stop (end_read c.in_err-end.ensures))))

pub returns : goal.returns
returns c = whole (step (any_read c.in_ok-element.ensures) (step (end_read c.in_ok-end.ensures) (finished refl)))
