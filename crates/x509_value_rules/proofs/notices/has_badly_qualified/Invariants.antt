use Rattle.der_cursor.specs.Formats.{Required}
use Rattle.der_extensions.specs.Extensions.{PolicyInformation}
use Rattle.der_extensions.specs.Lists.{items_left}
use Rattle.x509_value_rules.specs.Notices.{IsBadlyQualified}
use Rattle.x509_rule_facts.proofs.AmongLaws.{IsStill}
use Rattle.x509_value_rules.proofs.notices.has_badly_qualified.Given as goal

-- what is asked is asked of the policies that are left
abbrev pub invariant-loop-policy : goal.invariant-loop-policy
invariant-loop-policy l = IsStill (Required PolicyInformation) (IsBadlyQualified l.fn.rule) l.fn.policies.octets.now (items_left l.policy-iterator)
