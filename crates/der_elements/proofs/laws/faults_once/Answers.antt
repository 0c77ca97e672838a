use Rattle.der_elements.specs.FirstFault.{start}
use Rattle.der_elements.proofs.OneFault.{faults_same, one_faults_same}
use Rattle.der_elements.proofs.laws.faults_once.Goals as goal

pub returns-clause-input : goal.returns-clause-input
returns-clause-input c = λ x r i vs vs' steps steps' f f' g g'. faults_same 101 (start r i) g g'

pub returns-clause-element : goal.returns-clause-element
returns-clause-element c = λ r d i f f' g g'. (one_faults_same d (start r i) g.2 g'.2).2
