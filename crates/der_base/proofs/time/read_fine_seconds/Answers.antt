use Rattle.der_base.proofs.Times.TimesRead.{no_fine}
use Rattle.der_base.proofs.time.read_fine_seconds.Goals as goal

pub returns-in_err-second : goal.returns-in_err-second
returns-in_err-second c = rw c.from_residual.ensures (no_fine c.args.content.now c.in_err-second.ensures)
