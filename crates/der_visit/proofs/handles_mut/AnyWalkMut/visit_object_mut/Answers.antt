use Rattle.der_visit.specs.Changing.{at_node}
use Rattle.der_visit.proofs.handles_mut.AnyWalkMut.visit_object_mut.Goals as goal

pub returns-clause-step : goal.returns-clause-step
returns-clause-step g c =
    at_node c.handle_object_mut.ensures.step c.handle_content.ensures.one_type c.handle_content.ensures.step
