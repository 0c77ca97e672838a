use Rattle.der_values.proofs.LawsLaws.StatedLaws.{integers_shortest, minimal_shortest}
use Rattle.der_values.proofs.laws.integers_are_shortest.Goals as goal

pub returns-clause-written : goal.returns-clause-written
returns-clause-written c = integers_shortest

pub returns-clause-minimal : goal.returns-clause-minimal
returns-clause-minimal c = minimal_shortest
