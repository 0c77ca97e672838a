use Rattle.std.proofs.Common.{rules}
use Rattle.der_uses.specs.Names.Views.{attributes_of}
use Rattle.der_uses.proofs.NamesLaws.Attributes.{attribute_some}
use Rattle.der_uses.proofs.NamesLaws.Elements.{container}
use Rattle.der_uses.proofs.NamesLaws.Lists.{set_whole}
use Rattle.der_uses.proofs.names.name.read_relative_name.Goals as goal

pub returns : goal.returns
returns c = container {view = attributes_of} (rw c.parse_der_set_of_v.ensures at c.parse.ensures.run).1 (λ f g content h r s. set_whole content.now r s (λ f g p r s. search rules) attribute_some)
