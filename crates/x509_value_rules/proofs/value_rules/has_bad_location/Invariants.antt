use Rattle.der_cursor.specs.Formats.{Required}
use Rattle.der_extensions.specs.Extensions.{AccessDescription}
use Rattle.der_extensions.specs.Lists.{items_left}
use Rattle.x509_value_rules.specs.Sound.{IsBadLocation}
use Rattle.x509_rule_facts.proofs.AmongLaws.{IsStill}
use Rattle.x509_value_rules.proofs.value_rules.has_bad_location.Given as goal

-- what is asked is asked of the descriptions that are left
abbrev pub invariant-loop-description : goal.invariant-loop-description
invariant-loop-description l = IsStill (Required AccessDescription) IsBadLocation l.fn.descriptions.octets.now (items_left l.description-iterator)
