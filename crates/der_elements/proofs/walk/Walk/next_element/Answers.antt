use Rattle.der_elements.proofs.FirstFaults.{next_so}
use Rattle.der_elements.proofs.walk.Walk.next_element.Goals as goal

pub returns-clause-visits : goal.returns-clause-visits
returns-clause-visits c = λ x r i vs has. next_so x r i vs c.next_within.new.self c.next_within.result (c.next_within.ensures.visits x r i vs has)
