use Rattle.der_values.proofs.LawsLaws.Containers.SetOfOneOrder.{set_of_has_one_order}
use Rattle.der_values.proofs.LawsLaws.Containers.SetOfOrders.{encodings_do_not_tie}
use Rattle.der_values.proofs.laws.set_of_has_one_order.Goals as goal

pub returns-clause-no_tie : goal.returns-clause-no_tie
returns-clause-no_tie c = encodings_do_not_tie

pub returns-clause-one_order : goal.returns-clause-one_order
returns-clause-one_order c = set_of_has_one_order
