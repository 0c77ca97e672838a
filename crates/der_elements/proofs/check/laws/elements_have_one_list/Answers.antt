use Rattle.der_elements.proofs.CheckLaws.OneList.{one_list, one_list_of_one}
use Rattle.der_elements.proofs.check.laws.elements_have_one_list.Goals as goal

pub returns-clause-all : goal.returns-clause-all
returns-clause-all c = one_list

pub returns-clause-one : goal.returns-clause-one
returns-clause-one c = one_list_of_one
