use Rattle.der_values.proofs.LawsLaws.Containers.ContainerLaws.{opens_same}
use Rattle.der_values.proofs.laws.opened_in_one_way.Goals as goal

pub returns : goal.returns
returns c = opens_same
