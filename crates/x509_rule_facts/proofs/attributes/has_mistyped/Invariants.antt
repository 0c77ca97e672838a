use Rattle.x509.specs.Certificates.{attribute}
use Rattle.x509.specs.Formats.{set}
use Rattle.x509.specs.Lists.{Somewhere, names_left}
use Rattle.x509.proofs.WalkLaws.{IsStill}
use Rattle.x509_rule_facts.specs.Attributes.{IsMistyped}
use Rattle.x509_rule_facts.proofs.attributes.has_mistyped.Given as goal

-- what is asked is asked of the relative names that are left
abbrev pub invariant-loop-relative_name : goal.invariant-loop-relative_name
invariant-loop-relative_name l = IsStill set (λ w _. Somewhere attribute (λ a _. IsMistyped a) w) l.fn.name.octets.now (names_left l.relative_name-iterator)
