use Rattle.c_values.proofs.Within.{elements_lie_within}
use Rattle.c_values.proofs.laws.elements_lie_within.Goals as goal

pub returns : goal.returns
returns c = elements_lie_within
