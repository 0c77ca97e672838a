-- The values of extensions of the web PKI, as their ASN.1 has them, and the values of the structs in the code.
use Rattle.std.specs.Prelude.{◌≡◌, ◌≢◌, ℕ, ℤ, pos, ◌+◌, ◌*◌, ◌≤◌, Option, List, [], ◌∷◌, ◌++◌, length}
use Rattle.std.specs.Option.{option_map}
use Rattle.der_base.specs.declared.rules.Rules.TheVariants.{Der}
use Rattle.der_base.specs.Numbers.{unsigned}
use Rattle.der_cursor.specs.Formats.{AnyElement, Content, Element, End, Field, Format, IfLeft, Implicit, Limited}
use Rattle.der_cursor.specs.Formats.{Number, ObjectIdentifier, OctetStringOf, Optional, Required, Sequence, Text}
use Rattle.der_cursor.specs.Formats.{element_of, ◌⨾◌}
use Rattle.der_extensions.specs.declared.organization_identifier.OrganizationIdentifier as organization
use Rattle.der_extensions.specs.declared.qc_statements.QcStatement.{QcStatement}
use Rattle.der_extensions.specs.declared.timestamps.SignedCertificateTimestamps.{SignedCertificateTimestamps}
use Rattle.der_extensions.specs.declared.timestamps.TimestampIter.{TimestampIter}
use Rattle.der_extensions.specs.declared.tls_feature.TlsFeature.{TlsFeature}
use Rattle.der_extensions.specs.Lists.{IsListOf, ListOf}
use Rattle.der_values.specs.Kinds.{borrowed_octets}

-- OCSP no-check (RFC 6960 4.2.2.2.1), and the poison of a precertificate (RFC 6962 3.1): NULL

-- Features ::= SEQUENCE OF INTEGER                                       (RFC 7633 4.1)
-- A number that is negative or above 2^32-1 isn't read.
abbrev pub Feature : Format ℤ
Feature = Number (unsigned 32)

abbrev pub Features : Format (List ℕ)
Features = Sequence (ListOf (Required Feature))

abbrev pub feature_of : TlsFeature → ℤ
feature_of x = pos x.number

-- opaque <1..2^16-1>: the number of octets, in two octets, and then the octets, at least one (RFC 5246 4.3)
unfoldable pub Vector : Field (List ℕ)
Vector r i v rest = (high low : ℕ) × (i ≡ high ∷ low ∷ (v ++ rest)) × (length v ≡ high * 256 + low) × (v ≢ [])

-- opaque SerializedSCT<1..2^16-1>;                                       (RFC 6962 3.3)
-- struct { SerializedSCT sct_list <1..2^16-1>; } SignedCertificateTimestampList;
unfoldable pub TimestampList : Content (List ℕ)
TimestampList r w v = Vector Der w v [] × IsListOf Vector Der v

-- SignedCertificateTimestampList ::= OCTET STRING                        (3.3)
abbrev pub Timestamps : Format (List ℕ)
Timestamps = OctetStringOf TimestampList

abbrev pub timestamps_octets : SignedCertificateTimestamps → List ℕ
timestamps_octets x = x.octets.now

abbrev pub timestamps_left : TimestampIter → List ℕ
timestamps_left x = x.left.now

abbrev pub StatementValue : Type 0
StatementValue = List ℕ × (Option Element × Unit {0})

-- QCStatement ::= SEQUENCE {                                             (RFC 3739 3.2.6)
abbrev pub QCStatement : Format StatementValue
QCStatement = Sequence (
    Required ObjectIdentifier  -- statementId        OBJECT IDENTIFIER,
    ⨾ (IfLeft AnyElement  -- statementInfo      ANY DEFINED BY statementId OPTIONAL }
    ⨾ End))

-- QCStatements ::= SEQUENCE OF QCStatement
abbrev pub QCStatements : Format (List ℕ)
QCStatements = Sequence (ListOf (Required QCStatement))

abbrev pub statement_of : QcStatement → StatementValue
statement_of x = (borrowed_octets x.statement_id, (option_map element_of x.statement_info, tt))

abbrev pub PrintableString : Format (List ℕ)
PrintableString = Text 19

-- PrintableString (SIZE (n))
abbrev pub TextOf : ℕ → Format (List ℕ)
TextOf n = Limited (λ v. length v ≡ n) PrintableString

-- PrintableString (SIZE (0..128))
abbrev pub StateOrProvince : Format (List ℕ)
StateOrProvince = Limited (λ v. length v ≤ 128) PrintableString

abbrev pub OrganizationValue : Type 0
OrganizationValue = List ℕ × (List ℕ × (Option (List ℕ) × (List ℕ × Unit {0})))

-- CABFOrganizationIdentifier ::= SEQUENCE {                              (EV Guidelines 9.8.2)
abbrev pub CABFOrganizationIdentifier : Format OrganizationValue
CABFOrganizationIdentifier = Sequence (
    Required (TextOf 3)  -- registrationSchemeIdentifier   PrintableString (SIZE(3)),
    ⨾ (Required (TextOf 2)  -- registrationCountry            PrintableString (SIZE(2)),
    -- registrationStateOrProvince    [0] IMPLICIT PrintableString (SIZE(0..128)) OPTIONAL,
    ⨾ (Optional (Implicit 0 StateOrProvince)
    ⨾ (Required (Text 12)  -- registrationReference          UTF8String }
    ⨾ End))))

abbrev pub organization_identifier_of : organization.OrganizationIdentifier → OrganizationValue
organization_identifier_of x = (
  x.registration_scheme_identifier.now,
  (
    x.registration_country.now,
    (option_map (λ v. v.now) x.registration_state_or_province, (x.registration_reference.now, tt)),
  ),
)
