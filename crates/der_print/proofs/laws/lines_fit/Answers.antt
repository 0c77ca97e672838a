use Rattle.der_print.proofs.FitLaws.{line_fits}
use Rattle.der_print.proofs.laws.lines_fit.Goals as goal

pub returns : goal.returns
returns c = λ own field style v w line columns is l. line_fits style v columns is l
