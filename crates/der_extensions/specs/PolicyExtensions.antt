-- The values of extensions about policies and attributes (RFC 5280 4.2.1.5, 4.2.1.8, 4.2.1.11, 4.2.1.14), as their
-- ASN.1 has them, and the values of the structs in the code.
use Rattle.std.specs.Prelude.{ℕ, ℤ, pos, Option, List}
use Rattle.std.specs.Option.{option_map}
use Rattle.der_base.specs.Numbers.{unsigned}
use Rattle.der_cursor.specs.Formats.{AnyElement, End, Format, Implicit, Number, ObjectIdentifier, Optional, Required}
use Rattle.der_cursor.specs.Formats.{Sequence, Set, ◌⨾◌}
use Rattle.der_extensions.specs.declared.directory_attributes.DirectoryAttribute.{DirectoryAttribute as AttributeStruct}
use Rattle.der_extensions.specs.declared.policy_constraints.PolicyConstraints as constraints
use Rattle.der_extensions.specs.declared.policy_mappings.PolicyMapping.{PolicyMapping as MappingStruct}
use Rattle.der_extensions.specs.Lists.{SomeOf, list_octets}
use Rattle.der_values.specs.Kinds.{borrowed_octets}

abbrev pub MappingValue : Type 0
MappingValue = List ℕ × (List ℕ × Unit {0})

-- SEQUENCE {                                                             (4.2.1.5)
abbrev pub PolicyMapping : Format MappingValue
PolicyMapping = Sequence (
    Required ObjectIdentifier  -- issuerDomainPolicy      CertPolicyId,   -- OBJECT IDENTIFIER
    ⨾ (Required ObjectIdentifier  -- subjectDomainPolicy     CertPolicyId }
    ⨾ End))

-- PolicyMappings ::= SEQUENCE SIZE (1..MAX) OF SEQUENCE { .. }
abbrev pub PolicyMappings : Format (List ℕ)
PolicyMappings = Sequence (SomeOf (Required PolicyMapping))

abbrev pub mapping_of : MappingStruct → MappingValue
mapping_of x = (borrowed_octets x.issuer_domain_policy, (borrowed_octets x.subject_domain_policy, tt))

-- SkipCerts ::= INTEGER (0..MAX)                                         (4.2.1.11)
-- A number above 2^32-1 isn't read.
abbrev pub SkipCerts : Format ℤ
SkipCerts = Number (unsigned 32)

-- InhibitAnyPolicy ::= SkipCerts                                         (4.2.1.14)

abbrev pub PolicyConstraintsValue : Type 0
PolicyConstraintsValue = Option ℤ × (Option ℤ × Unit {0})

-- PolicyConstraints ::= SEQUENCE {                                       (4.2.1.11)
abbrev pub PolicyConstraints : Format PolicyConstraintsValue
PolicyConstraints = Sequence (
    Optional (Implicit 0 SkipCerts)  -- requireExplicitPolicy   [0] SkipCerts OPTIONAL,
    ⨾ (Optional (Implicit 1 SkipCerts)  -- inhibitPolicyMapping    [1] SkipCerts OPTIONAL }
    ⨾ End))

abbrev pub policy_constraints_of : constraints.PolicyConstraints → PolicyConstraintsValue
policy_constraints_of x =
    (option_map pos x.require_explicit_policy, (option_map pos x.inhibit_policy_mapping, tt))

-- values SET OF AttributeValue -- at least one value is required         (A.1)
-- The order of the values isn't checked.
abbrev pub AttributeValues : Format (List ℕ)
AttributeValues = Set (SomeOf AnyElement)

abbrev pub DirectoryAttributeValue : Type 0
DirectoryAttributeValue = List ℕ × (List ℕ × Unit {0})

-- Attribute ::= SEQUENCE {                                               (A.1)
abbrev pub DirectoryAttribute : Format DirectoryAttributeValue
DirectoryAttribute = Sequence (
    Required ObjectIdentifier  -- type      AttributeType,   -- OBJECT IDENTIFIER
    ⨾ (Required AttributeValues  -- values    SET OF AttributeValue }
    ⨾ End))

-- SubjectDirectoryAttributes ::= SEQUENCE SIZE (1..MAX) OF Attribute     (4.2.1.8)
abbrev pub SubjectDirectoryAttributes : Format (List ℕ)
SubjectDirectoryAttributes = Sequence (SomeOf (Required DirectoryAttribute))

abbrev pub directory_attribute_of : AttributeStruct → DirectoryAttributeValue
directory_attribute_of x = (borrowed_octets x.identifier, (list_octets x.values, tt))
