use Rattle.x509_rule_facts.proofs.SaidLaws.{negated}
use Rattle.x509_value_rules.proofs.subtrees.has_odd_mask.Goals as goal

pub returns-in-IpAddress : goal.returns-in-IpAddress
returns-in-IpAddress c = rw c.in-IpAddress.is (negated c.ends_in_mask.ensures)
