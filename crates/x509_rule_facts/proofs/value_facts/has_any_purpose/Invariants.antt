use Rattle.der_cursor.specs.Formats.{ObjectIdentifier, Required}
use Rattle.der_extensions.specs.Lists.{items_left}
use Rattle.x509_rule_facts.specs.ValueFacts.{any_extended_key_usage}
use Rattle.x509_rule_facts.proofs.AmongLaws.{IsStill}
use Rattle.x509_rule_facts.proofs.value_facts.has_any_purpose.Given as goal
use Rattle.std.proofs.Common.{◌≡◌}

-- what is asked is asked of the purposes that are left
abbrev pub invariant-loop-purpose : goal.invariant-loop-purpose
invariant-loop-purpose l = IsStill (Required ObjectIdentifier) (λ x. x ≡ any_extended_key_usage) l.fn.purposes.octets.now (items_left l.purpose-iterator)
