use Rattle.der_values.proofs.LawsLaws.StatedLaws.{groups_shortest}
use Rattle.der_values.proofs.laws.tag_numbers_are_shortest.Goals as goal

pub returns : goal.returns
returns c = groups_shortest
