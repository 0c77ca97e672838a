use Rattle.der_cursor.specs.Formats.{Required}
use Rattle.der_extensions.specs.Extensions.{PolicyInformation}
use Rattle.der_extensions.specs.Lists.{items_left}
use Rattle.x509_value_rules.specs.Policies.{IsAnyWithOther}
use Rattle.x509_rule_facts.proofs.AmongLaws.{IsStill}
use Rattle.x509_value_rules.proofs.policies.has_any_with_other.Given as goal

-- what is asked is asked of the policies that are left
abbrev pub invariant-loop-policy : goal.invariant-loop-policy
invariant-loop-policy l = IsStill (Required PolicyInformation) IsAnyWithOther l.fn.policies.octets.now (items_left l.policy-iterator)
