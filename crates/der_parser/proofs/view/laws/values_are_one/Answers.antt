use Rattle.der_parser.proofs.ViewLaws.OneTrees.{one_value, value_or_fault}
use Rattle.der_parser.proofs.view.laws.values_are_one.Goals as goal

pub returns-clause-value : goal.returns-clause-value
returns-clause-value c = one_value

pub returns-clause-no_fault : goal.returns-clause-no_fault
returns-clause-no_fault c = value_or_fault
