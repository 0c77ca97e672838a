-- What RFC 5280 asks of the values of extensions. One that isn't of its type breaks none of the other rules, unless it
-- isn't in DER.
use Rattle.std.specs.Prelude.{◌≡◌, ◌≢◌, ℕ, ◌<◌, ◌⊎◌, pos, ◌<ℤ◌, None, List, [], ◌∷◌, length}
use Rattle.der_base.specs.Octets.{integer_value}
use Rattle.x509.specs.declared.crl.reason.Reason.TheVariants.{Unspecified}
use Rattle.x509.specs.Crl.Reasons.{CRLReason}
use Rattle.der_cursor.specs.Formats.{GeneralizedTime, Integer, Required}
use Rattle.der_extensions.specs.Extensions.{AccessDescription, AccessValue, AuthorityInfoAccessSyntax}
use Rattle.der_extensions.specs.Extensions.{AuthorityKeyIdentifier, AuthorityValue, CRLDistributionPoints}
use Rattle.der_extensions.specs.Extensions.{CertificatePolicies, DistributionPoint, NameConstraints, PolicyInformation}
use Rattle.der_extensions.specs.GeneralNames.{GeneralName, GeneralNames}
use Rattle.der_extensions.specs.PolicyExtensions.{PolicyMapping, PolicyMappings}
use Rattle.der_extensions.specs.Revocation.{IssuingDistributionPoint}
use Rattle.x509.specs.Rules.{AreIndistinct, IsDer}
use Rattle.x509_value_rules.specs.declared.value_rules.ValueRule.{ValueRule}
use Rattle.x509_value_rules.specs.declared.value_rules.ValueRule.TheVariants.{OfType, IssuerAndSerial, Names, NotEmpty}
use Rattle.x509_value_rules.specs.declared.value_rules.ValueRule.TheVariants.{AnyPolicyQualifiers, DistinctPolicies}
use Rattle.x509_value_rules.specs.declared.value_rules.ValueRule.TheVariants.{Subtrees, CaIssuers, Points}
use Rattle.x509_value_rules.specs.declared.value_rules.ValueRule.TheVariants.{PointForAllReasons, ShortNumber}
use Rattle.x509_value_rules.specs.declared.value_rules.ValueRule.TheVariants.{NaturalNumber, WholeSeconds}
use Rattle.x509_value_rules.specs.declared.value_rules.ValueRule.TheVariants.{SpecifiedReason, UnmappedAnyPolicy}
use Rattle.x509_value_rules.specs.declared.value_rules.ValueRule.TheVariants.{IssuingPoint, Qualifiers, Issuer}
use Rattle.x509_value_rules.specs.declared.value_rules.ValueRule.TheVariants.{DerValues, DirectoryName, Locations}
use Rattle.x509_value_rules.specs.declared.names.NameRule.{NameRule}
use Rattle.x509_value_rules.specs.IssuingPoints.{BreaksIssuingPoint}
use Rattle.x509_rule_facts.specs.Lists.{Among}
use Rattle.x509_value_rules.specs.Names.{BreaksName, SomeNameBreaks}
use Rattle.x509_value_rules.specs.Notices.{IsBadlyQualified}
use Rattle.x509_value_rules.specs.Policies.{HasAnyPolicy, IsAnyWithOther}
use Rattle.x509_value_rules.specs.Points.{BreaksPoint, IsDistinguished, IsForAllReasons}
use Rattle.x509_value_rules.specs.Subtrees.{HasBrokenSubtree}
use Rattle.x509_rule_facts.specs.Types.{IsOfType}
use Rattle.x509_rule_facts.specs.Values.{Says}

-- authorityCertIssuer is there without authorityCertSerialNumber, or that without it
abbrev pub IsHalf : AuthorityValue → Type 0
IsHalf v = ((v.1.0 ≢ None) × (v.1.1.0 ≡ None)) ⊎ ((v.1.1.0 ≢ None) × (v.1.0 ≡ None))

-- a name of authorityCertIssuer breaks the rule
abbrev pub IsIssuerBroken : NameRule → AuthorityValue → Type 0
IsIssuerBroken r v = SomeNameBreaks r v.1.0

-- a SEQUENCE of no octets
abbrev pub empty_sequence : List ℕ
empty_sequence = 0x30 ∷ 0 ∷ []

-- id-ad-caIssuers OBJECT IDENTIFIER ::= { id-ad 2 }, which is 1.3.6.1.5.5.7.48.2
abbrev pub ca_issuers : List ℕ
ca_issuers = 43 ∷ 6 ∷ 1 ∷ 5 ∷ 5 ∷ 7 ∷ 48 ∷ 2 ∷ []

-- an accessMethod is another one
abbrev pub IsOtherMethod : AccessValue → Type 0
IsOtherMethod v = v.0 ≢ ca_issuers

-- the accessLocation breaks the rule
abbrev pub IsLocationBroken : NameRule → AccessValue → Type 0
IsLocationBroken r v = BreaksName r v.1.0

-- the value breaks the rule
abbrev pub BreaksValue : ValueRule → List ℕ → Type 0
BreaksValue (OfType t) w = ¬ IsOfType t w
BreaksValue IssuerAndSerial w = Says AuthorityKeyIdentifier IsHalf w
BreaksValue (Issuer r) w = Says AuthorityKeyIdentifier (IsIssuerBroken r) w
BreaksValue DistinctPolicies w = Says CertificatePolicies (λ v. AreIndistinct v) w
BreaksValue AnyPolicyQualifiers w =
    Says CertificatePolicies (λ v. Among (Required PolicyInformation) IsAnyWithOther v) w
BreaksValue (Qualifiers r) w =
    Says CertificatePolicies (λ v. Among (Required PolicyInformation) (IsBadlyQualified r) v) w
BreaksValue UnmappedAnyPolicy w = Says PolicyMappings (λ v. Among (Required PolicyMapping) HasAnyPolicy v) w
BreaksValue (Names r) w = Says GeneralNames (λ v. Among GeneralName (BreaksName r) v) w
BreaksValue DirectoryName w = Says GeneralNames (λ v. ¬ Among GeneralName IsDistinguished v) w
BreaksValue NotEmpty w = w ≡ empty_sequence
BreaksValue (Subtrees r) w = Says NameConstraints (HasBrokenSubtree r) w
BreaksValue (Points r) w = Says CRLDistributionPoints (λ v. Among (Required DistributionPoint) (BreaksPoint r) v) w
BreaksValue PointForAllReasons w =
    Says CRLDistributionPoints (λ v. ¬ Among (Required DistributionPoint) IsForAllReasons v) w
BreaksValue (IssuingPoint r) w = Says IssuingDistributionPoint (BreaksIssuingPoint r) w
BreaksValue CaIssuers w = Says AuthorityInfoAccessSyntax (λ v. Among (Required AccessDescription) IsOtherMethod v) w
BreaksValue (Locations r) w =
    Says AuthorityInfoAccessSyntax (λ v. Among (Required AccessDescription) (IsLocationBroken r) v) w
BreaksValue ShortNumber w = Says Integer (λ v. 20 < length v) w
BreaksValue NaturalNumber w = Says Integer (λ v. integer_value v <ℤ pos 0) w
BreaksValue WholeSeconds w = Says GeneralizedTime (λ v. v.nanosecond ≢ None) w
BreaksValue SpecifiedReason w = Says CRLReason (λ v. v ≡ Unspecified) w
BreaksValue DerValues w = ¬ IsDer w  -- "extnValue OCTET STRING -- contains the DER encoding of an ASN.1 value" (A.1)
