use Rattle.der_cursor.specs.Formats.{Required}
use Rattle.der_extensions.specs.Extensions.{PolicyQualifierInfo}
use Rattle.der_extensions.specs.Lists.{items_left}
use Rattle.x509_value_rules.specs.Policies.{IsOtherQualifier}
use Rattle.x509_rule_facts.proofs.AmongLaws.{IsStill}
use Rattle.x509_value_rules.proofs.policies.is_one_other.Given as goal

-- what is asked is asked of the qualifiers that are left
abbrev pub invariant-loop-qualifier : goal.invariant-loop-qualifier
invariant-loop-qualifier l = IsStill (Required PolicyQualifierInfo) IsOtherQualifier l.fn.qualifiers.octets.now (items_left l.qualifier-iterator)
