use Rattle.x509.specs.Certificates.{attribute}
use Rattle.x509.specs.Lists.{Somewhere, attributes_left}
use Rattle.x509_rule_facts.specs.Attributes.{IsBad}
use Rattle.x509_rule_facts.proofs.MarkLaws.{MarkedSoFar}
use Rattle.x509_rule_facts.proofs.attributes.mark_relative_name.Given as goal

-- of the attributes so far, the kinds are marked
abbrev pub invariant-loop-attribute : goal.invariant-loop-attribute
invariant-loop-attribute l = MarkedSoFar (λ k. Somewhere attribute (λ a _. IsBad k a) l.fn.name.octets.now) (λ k. Somewhere attribute (λ a _. IsBad k a) (attributes_left l.attribute-iterator)) l.fn.bad l.bad
