use Rattle.std.proofs.Common.{length}
use Rattle.x509_rules.specs.Examined.{signed_of}
use Rattle.x509_rules.specs.Rules.{Breaks}
use Rattle.x509_rule_facts.proofs.FirstLaws.{Searched}
use Rattle.x509_rules.proofs.broken.first_broken.Given as goal

-- the certificate breaks none of the rules before
abbrev pub invariant-loop-rule : goal.invariant-loop-rule
invariant-loop-rule l = Searched (λ r. Breaks r (signed_of l.fn.certificate)) l.fn.rules l.left

abbrev pub decreases-loop-rule : goal.decreases-loop-rule
decreases-loop-rule l = length l.left
