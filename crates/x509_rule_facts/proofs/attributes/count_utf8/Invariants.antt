use Rattle.std.proofs.Common.{◌≡◌, ◌≤◌, take}
use Rattle.std.specs.List.{count_by}
use Rattle.x509_rule_facts.specs.Attributes.{begins_character}
use Rattle.x509_rule_facts.proofs.attributes.count_utf8.Given as goal

-- the characters so far
abbrev pub invariant-loop-octet : goal.invariant-loop-octet
invariant-loop-octet l = (l.count ≡ count_by begins_character (take l.octet-index l.octets)) × (l.count ≤ l.octet-index)
