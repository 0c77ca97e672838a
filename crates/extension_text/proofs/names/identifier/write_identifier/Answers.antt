use Rattle.std.proofs.Common.{subst}
use Rattle.extension_text.specs.Names.Identifiers.{IsIdentifier}
use Rattle.extension_text.proofs.NamesLaws.WriteLaws.{restated}
use Rattle.extension_text.proofs.names.identifier.write_identifier.Goals as goal

pub returns : goal.returns
returns g c = restated (λ t x. subst (λ w. IsIdentifier w t) c.absolute_octets.ensures x) c.write_octets.ensures
