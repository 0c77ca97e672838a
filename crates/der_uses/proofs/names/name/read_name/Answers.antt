use Rattle.std.proofs.Common.{rules, map}
use Rattle.der_uses.specs.Names.Views.{attributes_of}
use Rattle.der_uses.proofs.NamesLaws.Attributes.{set_some}
use Rattle.der_uses.proofs.NamesLaws.Elements.{container}
use Rattle.der_uses.proofs.NamesLaws.Lists.{list_whole}
use Rattle.der_uses.proofs.names.name.read_name.Goals as goal

pub returns-in-Ok : goal.returns-in-Ok
returns-in-Ok c =
    let n = container {view = λ v. map attributes_of v.items} (rw c.parse_der_sequence_of_v.ensures at c.in-Ok.ensures.run).1 (λ f g content h r s. list_whole content.now r s (λ f g p r s. search rules) set_some) in
    record { found = n.spelled.found; only = n.spelled.only }

pub returns-in-Err : goal.returns-in-Err
returns-in-Err c =
    let n = container {view = λ v. map attributes_of v.items} (rw c.parse_der_sequence_of_v.ensures at c.in-Err.ensures.run).1 (λ f g content h r s. list_whole content.now r s (λ f g p r s. search rules) set_some) in
    record { found = tt; only = n.spelled.only }
