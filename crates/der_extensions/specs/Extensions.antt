-- The values of extensions (RFC 5280 4.2), as their ASN.1 has them, and the values of the structs in the code.
use Rattle.std.specs.Prelude.{◌≡◌, ◌⊎◌, ℕ, ◌<◌, ◌-◌, ◌/◌, ◌%◌, ◌^◌, ℤ, pos, Bool, false}
use Rattle.std.specs.Prelude.{Option, List, [], length, slice_get}
use Rattle.std.specs.Option.{option_map, IsSomeAnd}
use Rattle.der_base.specs.Numbers.{unsigned}
use Rattle.der_cursor.specs.Formats.{Format, Required, Optional, Default, ◌⨾◌, End, Sequence, Boolean, Number}
use Rattle.der_cursor.specs.Formats.{AnyElement, Element, ObjectIdentifier, element_of}
use Rattle.der_cursor.specs.Formats.{BitString, Field, Limited, Only, OptionalTagged, Implicit, Integer, OctetString}
use Rattle.der_extensions.specs.declared.basic_constraints.BasicConstraints as constraints
use Rattle.der_extensions.specs.declared.certificate_policies.PolicyInformation.{PolicyInformation as PolicyStruct}
use Rattle.der_extensions.specs.declared.certificate_policies.PolicyQualifierInfo as qualifier
use Rattle.der_extensions.specs.declared.distribution_points.DistributionPoint.{DistributionPoint as PointStruct}
use Rattle.der_extensions.specs.declared.distribution_points.DistributionPointName as point
use Rattle.der_extensions.specs.declared.distribution_points.DistributionPointName.TheVariants as kind
use Rattle.der_extensions.specs.declared.information_access.AccessDescription.{AccessDescription as AccessStruct}
use Rattle.der_extensions.specs.declared.key_identifiers.AuthorityKeyIdentifier as authority
use Rattle.der_extensions.specs.declared.key_usage.KeyUsage.{KeyUsage as UsageStruct}
use Rattle.der_extensions.specs.declared.name_constraints.GeneralSubtree.{GeneralSubtree as SubtreeStruct}
use Rattle.der_extensions.specs.declared.name_constraints.NameConstraints as names
use Rattle.der_extensions.specs.GeneralNames.{GeneralName, GeneralNames, NameValue, RelativeDistinguishedName, name_of}
use Rattle.der_extensions.specs.Lists.{SomeOf, list_octets}
use Rattle.der_values.specs.Kinds.{borrowed_octets}
use Rattle.x509.specs.Certificates.{bits_of}

abbrev pub ConstraintsValue : Type 0
ConstraintsValue = Bool × (Option ℤ × Unit {0})

-- BasicConstraints ::= SEQUENCE {                                       (4.2.1.9)
-- A path length above 2^32-1 isn't read.
abbrev pub BasicConstraints : Format ConstraintsValue
BasicConstraints = Sequence (
    Default Boolean false  -- cA                      BOOLEAN DEFAULT FALSE,
    ⨾ (Optional (Number (unsigned 32))  -- pathLenConstraint       INTEGER (0..MAX) OPTIONAL }
    ⨾ End))

abbrev pub constraints_of : constraints.BasicConstraints → ConstraintsValue
constraints_of x = (x.ca, (option_map pos x.path_length, tt))

-- there is a last bit, and it is 1
abbrev pub EndsInOne : ℕ × List ℕ → Type 0
EndsInOne v = (v.0 < 8) × IsSomeAnd (slice_get v.1 (length v.1 - 1)) (λ b. b / 2 ^ v.0 % 2 ≡ 1)

-- KeyUsage ::= BIT STRING { digitalSignature(0), ..., decipherOnly(8) } (4.2.1.3)
-- By DER a named bit list ends in a bit 1 (X.690 11.2.2), and at least one bit is 1.
abbrev pub KeyUsage : Format (ℕ × List ℕ)
KeyUsage = Limited EndsInOne BitString

abbrev pub usage_of : UsageStruct → ℕ × List ℕ
usage_of x = bits_of x.bits

-- SubjectKeyIdentifier ::= KeyIdentifier, an OCTET STRING                (4.2.1.2)

abbrev pub AuthorityValue : Type 0
AuthorityValue = Option (List ℕ) × (Option (List ℕ) × (Option (List ℕ) × Unit {0}))

-- AuthorityKeyIdentifier ::= SEQUENCE {                                  (4.2.1.1)
abbrev pub AuthorityKeyIdentifier : Format AuthorityValue
AuthorityKeyIdentifier = Sequence (
    Optional (Implicit 0 OctetString)  -- keyIdentifier             [0] IMPLICIT OCTET STRING OPTIONAL,
    ⨾ (Optional (Implicit 1 GeneralNames)  -- authorityCertIssuer       [1] IMPLICIT GeneralNames OPTIONAL,
    ⨾ (Optional (Implicit 2 Integer)  -- authorityCertSerialNumber [2] IMPLICIT INTEGER OPTIONAL }
    ⨾ End)))

abbrev pub authority_of : authority.AuthorityKeyIdentifier → AuthorityValue
authority_of x = (
  option_map (λ v. v.now) x.key_identifier,
  (
    option_map list_octets x.authority_cert_issuer,
    (option_map (λ v. v.now) x.authority_cert_serial_number, tt),
  ),
)

-- ExtKeyUsageSyntax ::= SEQUENCE SIZE (1..MAX) OF KeyPurposeId           (4.2.1.12)
-- KeyPurposeId ::= OBJECT IDENTIFIER
abbrev pub ExtKeyUsageSyntax : Format (List ℕ)
ExtKeyUsageSyntax = Sequence (SomeOf (Required ObjectIdentifier))

abbrev pub AccessValue : Type 0
AccessValue = List ℕ × (NameValue × Unit {0})

-- AccessDescription ::= SEQUENCE {                                       (4.2.2.1)
abbrev pub AccessDescription : Format AccessValue
AccessDescription = Sequence (
    Required ObjectIdentifier  -- accessMethod            OBJECT IDENTIFIER,
    ⨾ (GeneralName  -- accessLocation          GeneralName }
    ⨾ End))

-- AuthorityInfoAccessSyntax ::= SEQUENCE SIZE (1..MAX) OF AccessDescription
abbrev pub AuthorityInfoAccessSyntax : Format (List ℕ)
AuthorityInfoAccessSyntax = Sequence (SomeOf (Required AccessDescription))

abbrev pub access_of : AccessStruct → AccessValue
access_of x = (borrowed_octets x.access_method, (name_of x.access_location, tt))

abbrev pub QualifierValue : Type 0
QualifierValue = List ℕ × (Element × Unit {0})

-- PolicyQualifierInfo ::= SEQUENCE {                                     (4.2.1.4)
abbrev pub PolicyQualifierInfo : Format QualifierValue
PolicyQualifierInfo = Sequence (
    Required ObjectIdentifier  -- policyQualifierId       PolicyQualifierId,   -- OBJECT IDENTIFIER
    ⨾ (AnyElement  -- qualifier               ANY DEFINED BY policyQualifierId }
    ⨾ End))

-- SEQUENCE SIZE (1..MAX) OF PolicyQualifierInfo
abbrev pub PolicyQualifiers : Format (List ℕ)
PolicyQualifiers = Sequence (SomeOf (Required PolicyQualifierInfo))

abbrev pub PolicyValue : Type 0
PolicyValue = List ℕ × (Option (List ℕ) × Unit {0})

-- PolicyInformation ::= SEQUENCE {                                       (4.2.1.4)
abbrev pub PolicyInformation : Format PolicyValue
PolicyInformation = Sequence (
    Required ObjectIdentifier  -- policyIdentifier        CertPolicyId,   -- OBJECT IDENTIFIER
    ⨾ (Optional PolicyQualifiers  -- policyQualifiers        SEQUENCE SIZE (1..MAX) OF PolicyQualifierInfo OPTIONAL }
    ⨾ End))

-- CertificatePolicies ::= SEQUENCE SIZE (1..MAX) OF PolicyInformation
abbrev pub CertificatePolicies : Format (List ℕ)
CertificatePolicies = Sequence (SomeOf (Required PolicyInformation))

abbrev pub qualifier_of : qualifier.PolicyQualifierInfo → QualifierValue
qualifier_of x = (borrowed_octets x.policy_qualifier_id, (element_of x.qualifier, tt))

abbrev pub policy_of : PolicyStruct → PolicyValue
policy_of x = (borrowed_octets x.policy_identifier, (option_map list_octets x.policy_qualifiers, tt))

-- a name by its kind, as the octets of its list
pub data PointNameValue : Type 0 where
  full_name : List ℕ → PointNameValue
  name_relative_to_issuer : List ℕ → PointNameValue

-- DistributionPointName ::= CHOICE {                                     (4.2.1.13)
unfoldable pub DistributionPointName : Field PointNameValue
-- fullName                [0] GeneralNames,
DistributionPointName r i (full_name v) rest = Required (Implicit 0 GeneralNames) r i v rest
-- nameRelativeToCRLIssuer [1] RelativeDistinguishedName }
DistributionPointName r i (name_relative_to_issuer v) rest =
    Required (Implicit 1 RelativeDistinguishedName) r i v rest

-- there is no bit, or the last one is 1
abbrev pub IsShortest : ℕ × List ℕ → Type 0
IsShortest v = (v.1 ≡ []) ⊎ EndsInOne v

-- ReasonFlags ::= BIT STRING { unused(0), ..., aACompromise(8) }         (4.2.1.13)
-- By DER a named bit list ends in a bit 1, if it has any (X.690 11.2.2).
abbrev pub ReasonFlags : Format (ℕ × List ℕ)
ReasonFlags = Limited IsShortest BitString

abbrev pub PointValue : Type 0
PointValue = Option PointNameValue × (Option (ℕ × List ℕ) × (Option (List ℕ) × Unit {0}))

-- DistributionPoint ::= SEQUENCE {                                       (4.2.1.13)
-- A tag of a choice is explicit.
abbrev pub DistributionPoint : Format PointValue
DistributionPoint = Sequence (
    OptionalTagged 0 (Only DistributionPointName)  -- distributionPoint       [0] DistributionPointName OPTIONAL,
    ⨾ (Optional (Implicit 1 ReasonFlags)  -- reasons                 [1] ReasonFlags OPTIONAL,
    ⨾ (Optional (Implicit 2 GeneralNames)  -- cRLIssuer               [2] GeneralNames OPTIONAL }
    ⨾ End)))

-- CRLDistributionPoints ::= SEQUENCE SIZE (1..MAX) OF DistributionPoint
abbrev pub CRLDistributionPoints : Format (List ℕ)
CRLDistributionPoints = Sequence (SomeOf (Required DistributionPoint))

abbrev pub point_name_of : point.DistributionPointName → PointNameValue
point_name_of (kind.FullName x) = full_name (list_octets x)
point_name_of (kind.NameRelativeToCrlIssuer x) = name_relative_to_issuer x.octets.now

abbrev pub point_of : PointStruct → PointValue
point_of x = (
  option_map point_name_of x.distribution_point,
  (
    option_map bits_of x.reasons,
    (option_map list_octets x.crl_issuer, tt),
  ),
)

-- BaseDistance ::= INTEGER (0..MAX)                                      (4.2.1.10)
-- A distance above 2^32-1 isn't read.
abbrev pub BaseDistance : Format ℤ
BaseDistance = Number (unsigned 32)

abbrev pub SubtreeValue : Type 0
SubtreeValue = NameValue × (ℤ × (Option ℤ × Unit {0}))

-- GeneralSubtree ::= SEQUENCE {                                          (4.2.1.10)
abbrev pub GeneralSubtree : Format SubtreeValue
GeneralSubtree = Sequence (
    GeneralName  -- base                    GeneralName,
    ⨾ (Default (Implicit 0 BaseDistance) (pos 0)  -- minimum                 [0] BaseDistance DEFAULT 0,
    ⨾ (Optional (Implicit 1 BaseDistance)  -- maximum                 [1] BaseDistance OPTIONAL }
    ⨾ End)))

-- GeneralSubtrees ::= SEQUENCE SIZE (1..MAX) OF GeneralSubtree
abbrev pub GeneralSubtrees : Format (List ℕ)
GeneralSubtrees = Sequence (SomeOf (Required GeneralSubtree))

abbrev pub NameConstraintsValue : Type 0
NameConstraintsValue = Option (List ℕ) × (Option (List ℕ) × Unit {0})

-- NameConstraints ::= SEQUENCE {                                         (4.2.1.10)
abbrev pub NameConstraints : Format NameConstraintsValue
NameConstraints = Sequence (
    Optional (Implicit 0 GeneralSubtrees)  -- permittedSubtrees       [0] GeneralSubtrees OPTIONAL,
    ⨾ (Optional (Implicit 1 GeneralSubtrees)  -- excludedSubtrees        [1] GeneralSubtrees OPTIONAL }
    ⨾ End))

abbrev pub subtree_of : SubtreeStruct → SubtreeValue
subtree_of x = (name_of x.base, (pos x.minimum, (option_map pos x.maximum, tt)))

abbrev pub name_constraints_of : names.NameConstraints → NameConstraintsValue
name_constraints_of x =
    (option_map list_octets x.permitted_subtrees, (option_map list_octets x.excluded_subtrees, tt))
