use Rattle.std.proofs.Common.{length}
use Rattle.x509_rules.specs.Crl.Examined.{signed_list_of}
use Rattle.x509_rules.specs.Crl.ListRules.{BreaksList}
use Rattle.x509_rule_facts.proofs.FirstLaws.{Searched}
use Rattle.x509_rules.proofs.crl.revoked.first_broken_of_list.Given as goal

-- the list breaks none of the rules before
abbrev pub invariant-loop-rule : goal.invariant-loop-rule
invariant-loop-rule l = Searched (λ r. BreaksList r (signed_list_of l.fn.list)) l.fn.rules l.left

abbrev pub decreases-loop-rule : goal.decreases-loop-rule
decreases-loop-rule l = length l.left
