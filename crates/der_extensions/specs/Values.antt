-- What an extension says, by its identifier (RFC 5280 4.2, 5.2, 5.3, and those of the web).
use Rattle.std.specs.Prelude.{◌≡◌, ℕ, List, pos, Option, Some, None, Result, Ok}
use Rattle.std.specs.Result.{result_map_both}
use Rattle.der_base.specs.declared.error.Error.{Error as BerError}
use Rattle.der_base.specs.declared.rules.Rules.TheVariants.{Der}
use Rattle.der_cursor.specs.declared.error.ReadError.{ReadError}
use Rattle.der_cursor.specs.Formats.{Format, GeneralizedTime, Never, Null, OctetString, ReadsInput}
use Rattle.der_values.specs.Kinds.{borrowed_octets}
use Rattle.x509.specs.declared.extension.Extension.{Extension}
use Rattle.der_extensions.specs.declared.known.KnownExtension.{KnownExtension}
use Rattle.der_extensions.specs.declared.known.KnownExtension.TheVariants as known
use Rattle.der_extensions.specs.declared.value.ExtensionValue.{ExtensionValue}
use Rattle.der_extensions.specs.declared.value.ExtensionValue.TheVariants as value
use Rattle.der_extensions.specs.Extensions.{AuthorityInfoAccessSyntax, AuthorityKeyIdentifier, BasicConstraints}
use Rattle.der_extensions.specs.Extensions.{CRLDistributionPoints, CertificatePolicies, ExtKeyUsageSyntax}
use Rattle.der_extensions.specs.Extensions.{KeyUsage, NameConstraints, authority_of, constraints_of}
use Rattle.der_extensions.specs.Extensions.{name_constraints_of, usage_of}
use Rattle.der_extensions.specs.GeneralNames.{GeneralNames}
use Rattle.der_extensions.specs.Known.{IdentifiesExtension}
use Rattle.der_extensions.specs.Lists.{list_octets}
use Rattle.der_extensions.specs.PolicyExtensions.{PolicyConstraints, PolicyMappings, SkipCerts}
use Rattle.der_extensions.specs.PolicyExtensions.{SubjectDirectoryAttributes, policy_constraints_of}
use Rattle.der_extensions.specs.Revocation.{CRLNumber, IssuingDistributionPoint, issuing_point_of}
use Rattle.der_extensions.specs.WebExtensions.{CABFOrganizationIdentifier, Features, QCStatements, Timestamps}
use Rattle.der_extensions.specs.WebExtensions.{organization_identifier_of, timestamps_octets}

-- the value of the extension is read as one of this format
module _ (w : List ℕ) (result : Result ExtensionValue (ReadError BerError)) where
  abbrev pub IsRead : {T V : Type 0} → (T → ExtensionValue) → Format V → (T → V) → Type 0
  IsRead {T} made f view = (read : Result T (ReadError BerError)) × ReadsInput Der f view Never w read
      × (result ≡ result_map_both made (λ e. e) read)

  abbrev pub ReadsAs : KnownExtension → Type 0
  ReadsAs known.AuthorityKeyIdentifier = IsRead value.AuthorityKeyIdentifier AuthorityKeyIdentifier authority_of
  ReadsAs known.SubjectKeyIdentifier = IsRead value.SubjectKeyIdentifier OctetString (λ x. x.now)
  ReadsAs known.KeyUsage = IsRead value.KeyUsage KeyUsage usage_of
  ReadsAs known.CertificatePolicies = IsRead value.CertificatePolicies CertificatePolicies list_octets
  ReadsAs known.SubjectAltName = IsRead value.SubjectAltName GeneralNames list_octets
  ReadsAs known.IssuerAltName = IsRead value.IssuerAltName GeneralNames list_octets
  ReadsAs known.BasicConstraints = IsRead value.BasicConstraints BasicConstraints constraints_of
  ReadsAs known.NameConstraints = IsRead value.NameConstraints NameConstraints name_constraints_of
  ReadsAs known.ExtendedKeyUsage = IsRead value.ExtendedKeyUsage ExtKeyUsageSyntax list_octets
  ReadsAs known.CrlDistributionPoints = IsRead value.CrlDistributionPoints CRLDistributionPoints list_octets
  ReadsAs known.FreshestCrl = IsRead value.FreshestCrl CRLDistributionPoints list_octets
  ReadsAs known.AuthorityInfoAccess = IsRead value.AuthorityInfoAccess AuthorityInfoAccessSyntax list_octets
  ReadsAs known.SubjectInfoAccess = IsRead value.SubjectInfoAccess AuthorityInfoAccessSyntax list_octets
  ReadsAs known.PolicyMappings = IsRead value.PolicyMappings PolicyMappings list_octets
  ReadsAs known.SubjectDirectoryAttributes =
      IsRead value.SubjectDirectoryAttributes SubjectDirectoryAttributes list_octets
  ReadsAs known.PolicyConstraints = IsRead value.PolicyConstraints PolicyConstraints policy_constraints_of
  ReadsAs known.InhibitAnyPolicy = IsRead value.InhibitAnyPolicy SkipCerts pos
  ReadsAs known.CrlNumber = IsRead value.CrlNumber CRLNumber (λ x. x.now)
  ReadsAs known.DeltaCrlIndicator = IsRead value.DeltaCrlIndicator CRLNumber (λ x. x.now)
  ReadsAs known.IssuingDistributionPoint =
      IsRead value.IssuingDistributionPoint IssuingDistributionPoint issuing_point_of
  ReadsAs known.ReasonCode = result ≡ Ok value.ReasonCode
  ReadsAs known.InvalidityDate = IsRead value.InvalidityDate GeneralizedTime (λ x. x)
  ReadsAs known.CertificateIssuer = IsRead value.CertificateIssuer GeneralNames list_octets
  ReadsAs known.SignedCertificateTimestamps = IsRead value.SignedCertificateTimestamps Timestamps timestamps_octets
  ReadsAs known.PrecertificatePoison = IsRead (λ u. value.PrecertificatePoison) Null (λ x. x)
  ReadsAs known.TlsFeature = IsRead value.TlsFeatures Features list_octets
  ReadsAs known.OcspNoCheck = IsRead (λ u. value.OcspNoCheck) Null (λ x. x)
  ReadsAs known.QcStatements = IsRead value.QcStatements QCStatements list_octets
  ReadsAs known.OrganizationIdentifier =
      IsRead value.OrganizationIdentifier CABFOrganizationIdentifier organization_identifier_of
  ReadsAs known.NoRevAvail = IsRead (λ u. value.NoRevAvail) Null (λ x. x)

-- the value is read as the type that the identifier names, if it is that of a known extension
abbrev pub ReadsValue : List ℕ → Result ExtensionValue (ReadError BerError) → Option KnownExtension → Type 0
ReadsValue w result (Some k) = ReadsAs w result k
ReadsValue w result None = result ≡ Ok value.Other

abbrev pub ReadsExtension : Extension → Result ExtensionValue (ReadError BerError) → Type 0
ReadsExtension e result = (k : Option KnownExtension) × IdentifiesExtension (borrowed_octets e.identifier) k
    × ReadsValue e.value.now result k
