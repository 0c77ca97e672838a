use Rattle.der_values.proofs.LawsLaws.StatedLaws.{octets_shortest, lengths_shortest}
use Rattle.der_values.proofs.laws.lengths_are_shortest.Goals as goal

pub returns-clause-number : goal.returns-clause-number
returns-clause-number c = octets_shortest

pub returns-clause-length : goal.returns-clause-length
returns-clause-length c = lengths_shortest
