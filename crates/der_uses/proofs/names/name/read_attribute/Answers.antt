use Rattle.std.proofs.Common.{rules}
use Rattle.der_uses.proofs.NamesLaws.Elements.{container}
use Rattle.der_uses.proofs.names.name.read_attribute.Goals as goal

pub returns : goal.returns
returns c = container (rw c.parse_der_sequence_defined_g.ensures at c.parse.ensures.run).1 (λ f g content h r s. search rules)
