use Rattle.der_elements.proofs.VisitedElements.{are_elements}
use Rattle.der_elements.proofs.laws.visits_elements.Goals as goal

pub returns : goal.returns
returns c = λ x r d k a i vs f v. are_elements f v
