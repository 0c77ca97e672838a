-- Values that break no rule of their type.
use Rattle.std.specs.Prelude.{◌≡◌, ℕ, List, Option, Some, None}
use Rattle.der_extensions.specs.Extensions.{AccessValue}
use Rattle.x509_rule_facts.specs.declared.types.ValueType.{ValueType}
use Rattle.x509_rule_facts.specs.declared.types.ValueType.TheVariants as kind
use Rattle.x509_value_rules.specs.declared.value_rules.ValueRule.{ValueRule}
use Rattle.x509_value_rules.specs.declared.value_rules.ValueRule.TheVariants as rule
use Rattle.x509_value_rules.specs.ValueRules.{BreaksValue}
use Rattle.x509_value_rules.specs.Names.{IsBadName}

-- the type of which a rule asks each value, if there is one
abbrev pub type_of_rule : ValueRule → Option ValueType
type_of_rule (rule.OfType t) = Some t
type_of_rule rule.IssuerAndSerial = Some kind.KeyIdentifiers
type_of_rule (rule.Issuer r) = Some kind.KeyIdentifiers
type_of_rule rule.DistinctPolicies = Some kind.Policies
type_of_rule rule.AnyPolicyQualifiers = Some kind.Policies
type_of_rule (rule.Qualifiers r) = Some kind.Policies
type_of_rule rule.UnmappedAnyPolicy = Some kind.Mappings
type_of_rule (rule.Names r) = Some kind.Names
type_of_rule rule.DirectoryName = None
type_of_rule rule.NotEmpty = None
type_of_rule (rule.Subtrees r) = Some kind.NameConstraints
type_of_rule (rule.Points r) = Some kind.Points
type_of_rule rule.PointForAllReasons = Some kind.Points
type_of_rule (rule.IssuingPoint r) = Some kind.IssuingPoint
type_of_rule rule.CaIssuers = None
type_of_rule (rule.Locations r) = Some kind.Descriptions
type_of_rule rule.ShortNumber = Some kind.Number
type_of_rule rule.NaturalNumber = Some kind.Number
type_of_rule rule.WholeSeconds = Some kind.Date
type_of_rule rule.SpecifiedReason = Some kind.Reason
type_of_rule rule.DerValues = None

-- an accessLocation that breaks a rule of names
abbrev pub IsBadLocation : AccessValue → Type 0
IsBadLocation v = IsBadName v.1.0

-- the value breaks none of the rules about the type
abbrev pub IsSound : ValueType → List ℕ → Type 0
IsSound t w = (r : ValueRule) → type_of_rule r ≡ Some t → ¬ BreaksValue r w
