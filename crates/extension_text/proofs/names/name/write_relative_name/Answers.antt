use Rattle.std.proofs.Common.{refl, subst, sym}
use Rattle.x509.specs.Certificates.{attribute_of}
use Rattle.extension_text.specs.Names.Names.{IsRelativeName, attributes, no_attribute}
use Rattle.extension_text.proofs.NamesLaws.WriteLaws.{next, nothing, restated}
use Rattle.extension_text.proofs.names.name.write_relative_name.Goals as goal

pub returns-in_default : goal.returns-in_default
returns-in_default g c =
    restated (λ t x. subst (λ i. IsRelativeName i t) c.attributes-attributes.ensures.octets (subst (IsRelativeName _) (sym x) (no_attribute c.in_default.ensures.steps.0))) nothing

pub returns : goal.returns
returns g c =
    restated (λ t x. subst (λ i. IsRelativeName i t) c.attributes-attributes.ensures.octets (attributes _ (attribute_of c.in-Some.first) c.in-Some.ensures.steps x))
    (next c.in_ok-write_attribute.ensures refl c.write_further.ensures)
