-- What one reading of a value finds.
use Rattle.std.specs.Prelude.{ℕ, ◌↔◌, Bool, List, IsTrue}
use Rattle.x509_value_rules.specs.declared.names.NameRule.{NameRule}
use Rattle.x509_value_rules.specs.declared.reading.Reading.{Reading}
use Rattle.x509_value_rules.specs.declared.reading.Reading.TheVariants as found
use Rattle.x509_rule_facts.specs.declared.types.ValueType.TheVariants as kind
use Rattle.x509_rule_facts.specs.declared.value_facts.ValueFact.TheVariants as fact
use Rattle.x509_value_rules.specs.declared.value_rules.ValueRule.TheVariants as rule
use Rattle.x509_value_rules.specs.Sound.{IsSound}
use Rattle.x509_rule_facts.specs.Types.{IsOfType}
use Rattle.x509_rule_facts.specs.ValueFacts.{ValueSays}
use Rattle.x509_value_rules.specs.ValueRules.{BreaksValue}

-- if this is so, no name of an authorityCertIssuer breaks a rule
abbrev pub NamesNoIssuer : Bool → List ℕ → Type 0
NamesNoIssuer n w = IsTrue n → (r : NameRule) → ¬ BreaksValue (rule.Issuer r) w

-- what was found of the value is so
abbrev pub IsReadingOf : Reading → List ℕ → Type 0
IsReadingOf found.Nothing w = Unit {0}
IsReadingOf (found.Sound t) w = IsSound t w
IsReadingOf (found.Constraints a p) w = IsOfType kind.Constraints w
    × (IsTrue a ↔ ValueSays fact.Authority w) × (IsTrue p ↔ ValueSays fact.PathLength w)
IsReadingOf (found.KeyUsage c l) w = IsOfType kind.KeyUsage w
    × (IsTrue c ↔ ValueSays fact.KeyCertSign w) × (IsTrue l ↔ ValueSays fact.CrlSign w)
IsReadingOf (found.KeyIdentifiers k h n) w = IsOfType kind.KeyIdentifiers w
    × (IsTrue k ↔ ValueSays fact.KeyIdentifier w) × (IsTrue h ↔ BreaksValue rule.IssuerAndSerial w)
    × NamesNoIssuer n w
