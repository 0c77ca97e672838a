use Rattle.der_values.proofs.LawsLaws.Containers.ContainerLaws.{element_passes, number_passes, explicit_passes}
use Rattle.der_values.proofs.laws.elements_are_never_refused.Goals as goal

pub returns-clause-any : goal.returns-clause-any
returns-clause-any g c rules i k p t w rest b r = element_passes k p t w rest b

pub returns-clause-number : goal.returns-clause-number
returns-clause-number g c rules i k p t w rest b r = number_passes k p t w rest b

pub returns-clause-explicit : goal.returns-clause-explicit
returns-clause-explicit g c rules i k t w rest b o r = explicit_passes k t w rest b o
