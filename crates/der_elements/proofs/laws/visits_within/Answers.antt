use Rattle.der_elements.proofs.VisitedElements.{visits_within}
use Rattle.der_elements.proofs.laws.visits_within.Goals as goal

pub returns : goal.returns
returns c = λ x r d k a i vs v. visits_within v
