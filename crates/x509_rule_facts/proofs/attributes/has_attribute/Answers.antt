use Rattle.std.proofs.Common.{refl}
use Rattle.std.proofs.lemmas.Bool.{false≢true}
use Rattle.x509.specs.Certificates.{attribute, attribute_of}
use Rattle.x509.proofs.CertificateLaws.{attribute_exact}
use Rattle.x509.proofs.WalkLaws.{found_here, not_found, still_on}
use Rattle.x509_rule_facts.proofs.attributes.has_attribute.Goals as goal

pub returns-then-is_attribute : goal.returns-then-is_attribute
returns-then-is_attribute c = found_here {f = attribute} attribute_exact (attribute_of c.in-Some.attribute) c.in-Some.ensures.steps c.loop-attribute.invariant (c.if-is_attribute.ensures.0 refl)

pub loop-attribute-preserved : goal.loop-attribute-preserved
loop-attribute-preserved c = still_on {f = attribute} attribute_exact (attribute_of c.in-Some.attribute) c.in-Some.ensures.steps c.loop-attribute.invariant (λ h. false≢true (c.if-is_attribute.ensures.1 h))

pub returns : goal.returns
returns c = not_found c.loop-attribute.invariant c.in-None.ensures.steps.0
