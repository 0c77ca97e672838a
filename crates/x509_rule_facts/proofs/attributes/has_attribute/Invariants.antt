use Rattle.std.proofs.Common.{◌≡◌}
use Rattle.x509.specs.Certificates.{attribute}
use Rattle.x509.specs.Lists.{attributes_left}
use Rattle.x509.proofs.WalkLaws.{IsStill}
use Rattle.x509_rule_facts.specs.Attributes.{kind_octets}
use Rattle.x509_rule_facts.proofs.attributes.has_attribute.Given as goal

-- what is asked is asked of the attributes that are left
abbrev pub invariant-loop-attribute : goal.invariant-loop-attribute
invariant-loop-attribute l = IsStill attribute (λ a _. a.identifier ≡ kind_octets l.fn.kind) l.fn.name.octets.now (attributes_left l.attribute-iterator)
