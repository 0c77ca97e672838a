use Rattle.der_elements.specs.FirstFault.{no_extras}
use Rattle.der_elements.proofs.NoFaults.{faults_never, faults_never_of}
use Rattle.der_elements.proofs.laws.faults_never.Goals as goal

pub returns-clause-input : goal.returns-clause-input
returns-clause-input c = λ x r i vs steps f g are. faults_never x r 101 i vs steps f g are

pub returns-clause-element : goal.returns-clause-element
returns-clause-element c = λ r d i rest f g begins. faults_never_of no_extras r d i begins.0 rest g.0 g.1 f g.2 begins.1 begins.2
