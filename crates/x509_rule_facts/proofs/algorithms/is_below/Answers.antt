use Rattle.x509_rule_facts.proofs.BelowLaws.{below_other, below_within}
use Rattle.x509_rule_facts.proofs.algorithms.is_below.Goals as goal

pub returns-then-is_within : goal.returns-then-is_within
returns-then-is_within c = below_within c.in-Some.ensures.cases.0 c.is_within.ensures c.if-is_within.true c.are_same.ensures

pub returns-else-is_within : goal.returns-else-is_within
returns-else-is_within c = below_other _ _ _ c.in-Some.ensures.cases.0 c.is_within.ensures c.if-is_within.false
