use Rattle.x509.specs.Lists.{names_left}
use Rattle.x509_rule_facts.specs.Attributes.{HasBadAttribute}
use Rattle.x509_rule_facts.proofs.MarkLaws.{MarkedSoFar}
use Rattle.x509_rule_facts.proofs.attributes.mark_name.Given as goal

-- of the relative names so far, the kinds are marked
abbrev pub invariant-loop-relative_name : goal.invariant-loop-relative_name
invariant-loop-relative_name l = MarkedSoFar (λ k. HasBadAttribute k l.fn.name.octets.now) (λ k. HasBadAttribute k (names_left l.relative_name-iterator)) l.fn.bad l.bad
