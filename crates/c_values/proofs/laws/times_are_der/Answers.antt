use Rattle.c_values.proofs.Moments.{times_are_der}
use Rattle.c_values.proofs.laws.times_are_der.Goals as goal

pub returns : goal.returns
returns c = times_are_der
