use Rattle.der_cursor.specs.Formats.{Required}
use Rattle.der_extensions.specs.PolicyExtensions.{PolicyMapping}
use Rattle.der_extensions.specs.Lists.{items_left}
use Rattle.x509_value_rules.specs.Policies.{HasAnyPolicy}
use Rattle.x509_rule_facts.proofs.AmongLaws.{IsStill}
use Rattle.x509_value_rules.proofs.mappings.maps_any_policy.Given as goal

-- what is asked is asked of the mappings that are left
abbrev pub invariant-loop-mapping : goal.invariant-loop-mapping
invariant-loop-mapping l = IsStill (Required PolicyMapping) HasAnyPolicy l.fn.mappings.octets.now (items_left l.mapping-iterator)
