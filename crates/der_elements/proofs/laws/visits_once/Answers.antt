use Rattle.std.proofs.Common.{refl}
use Rattle.der_elements.proofs.OneVisit.{visits_same}
use Rattle.der_elements.proofs.laws.visits_once.Goals as goal

pub returns : goal.returns
returns c = λ x r d k a i vs vs' v v'. visits_same v v' refl
