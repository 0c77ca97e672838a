-- Extensions in words (RFC 5280 4.2).
use Rattle.std.specs.Prelude.{◌≡◌, ◌≢◌, ℕ, ◌⊎◌, ◌==◌, ℤ, if◌then◌else◌, nat_abs, Bool, true, false}
use Rattle.std.specs.Prelude.{List, [], ◌++◌, codes, decimal, Option, Some, None, Result}
use Rattle.std.specs.Prelude.{Ok, Err}
use Rattle.der_base.specs.declared.error.Error.{Error as BerError}
use Rattle.der_base.specs.declared.rules.Rules.TheVariants.{Der}
use Rattle.der_base.specs.Pretty.{boolean_text}
use Rattle.der_cursor.specs.declared.error.ReadError.{ReadError}
use Rattle.der_cursor.specs.Formats.{ObjectIdentifier, Required}
use Rattle.der_extensions.specs.declared.basic_constraints.BasicConstraints.{BasicConstraints}
use Rattle.der_extensions.specs.declared.value.ExtensionValue.{ExtensionValue}
use Rattle.der_extensions.specs.declared.value.ExtensionValue.TheVariants as value
use Rattle.der_extensions.specs.Extensions.{AccessDescription, AccessValue, AuthorityValue, GeneralSubtree}
use Rattle.der_extensions.specs.Extensions.{NameConstraintsValue, SubtreeValue, authority_of, name_constraints_of}
use Rattle.der_extensions.specs.Lists.{list_octets}
use Rattle.der_extensions.specs.Revocation.{issuing_point_of}
use Rattle.der_extensions.specs.Values.{ReadsExtension}
use Rattle.der_extensions.specs.WebExtensions.{organization_identifier_of, timestamps_octets}
use Rattle.x509.specs.declared.extension.Extension.{Extension}
use Rattle.x509.specs.Certificates.{ExtensionValue as ExtensionFields, extension, extension_of}
use Rattle.x509.specs.Formats.{spells}
use Rattle.extension_text.specs.Names.Identifiers.{IsIdentifier, IsIdentifierLine}
use Rattle.extension_text.specs.Names.Pieces.{Each, Exactly, ◌⨾◌}
use Rattle.extension_text.specs.Names.Values.{line, number_line, octets_line, optional_number}
use Rattle.extension_text.specs.Names.Values.{optional_octets, serial_text, time_line}
use Rattle.extension_text.specs.GeneralNames.{AreGeneralNames, IsGeneralName}
use Rattle.extension_text.specs.Points.{ArePoints, IsIssuingPoint}
use Rattle.extension_text.specs.Policies.{AreMappings, ArePolicies, policy_constraints_text}
use Rattle.extension_text.specs.Timestamps.{AreTimestamps}
use Rattle.extension_text.specs.Unread.{IsUnread}
use Rattle.extension_text.specs.Usage.{usage_text}
use Rattle.extension_text.specs.Web.{AreDirectoryAttributes, AreFeatures, AreStatements, organization_text}

-- BasicConstraints (4.2.1.9)
abbrev pub constraints_text : BasicConstraints → List ℕ
constraints_text x = line (codes "      CA: ") (boolean_text x.ca)
    ++ optional_number (codes "      Path length: ") x.path_length

-- AuthorityKeyIdentifier (4.2.1.1)
abbrev pub AreIssuerNames : Option (List ℕ) → List ℕ → Type 0
AreIssuerNames (Some i) = Exactly (codes "      Issuer:\n") ⨾ AreGeneralNames (codes "        ") i
AreIssuerNames None = Exactly []

abbrev pub optional_serial : Option (List ℕ) → List ℕ
optional_serial (Some w) = line (codes "      Serial number: ") (serial_text w)
optional_serial None = []

abbrev pub IsAuthority : AuthorityValue → List ℕ → Type 0
IsAuthority a = Exactly (optional_octets (codes "      Key identifier: ") a.0)
    ⨾ (AreIssuerNames a.1.0 ⨾ Exactly (optional_serial a.1.1.0))

-- ExtKeyUsageSyntax (4.2.1.12)
abbrev pub IsPurpose : List ℕ → List ℕ → Type 0
IsPurpose w = IsIdentifierLine (codes "      Purpose: ") w

abbrev pub ArePurposes : List ℕ → List ℕ → Type 0
ArePurposes i = Each (Required ObjectIdentifier Der) IsPurpose i

-- AuthorityInfoAccessSyntax (4.2.2.1)
abbrev pub IsDescription : AccessValue → List ℕ → Type 0
IsDescription a = IsIdentifierLine (codes "      Method: ") a.0 ⨾ IsGeneralName (codes "        ") a.1.0

abbrev pub AreDescriptions : List ℕ → List ℕ → Type 0
AreDescriptions i = Each (Required AccessDescription Der) IsDescription i

-- NameConstraints (4.2.1.10); a minimum of 0 is that of each certificate
abbrev pub minimum_text : ℕ → List ℕ
minimum_text n = if n == 0 then [] else line (codes "          Minimum: ") (decimal n)

abbrev pub distances_text : ℕ → Option ℕ → List ℕ
distances_text minimum maximum = minimum_text minimum ++ optional_number (codes "          Maximum: ") maximum

-- the number that isn't negative
abbrev pub natural : Option ℤ → Option ℕ
natural (Some n) = Some (nat_abs n)
natural None = None

abbrev pub IsSubtree : SubtreeValue → List ℕ → Type 0
IsSubtree s = IsGeneralName (codes "        ") s.0
    ⨾ Exactly (distances_text (nat_abs s.1.0) (natural s.1.1.0))

abbrev pub AreSubtrees : List ℕ → List ℕ → Type 0
AreSubtrees i = Each (Required GeneralSubtree Der) IsSubtree i

abbrev pub AreOptionalSubtrees : List ℕ → Option (List ℕ) → List ℕ → Type 0
AreOptionalSubtrees heading (Some i) = Exactly heading ⨾ AreSubtrees i
AreOptionalSubtrees heading None = Exactly []

abbrev pub IsNameConstraints : NameConstraintsValue → List ℕ → Type 0
IsNameConstraints c = AreOptionalSubtrees (codes "      Permitted:\n") c.0
    ⨾ AreOptionalSubtrees (codes "      Excluded:\n") c.1.0

-- What a value says; w has the octets of one that isn't shown otherwise. A NULL says nothing.
abbrev pub IsValue : List ℕ → ExtensionValue → List ℕ → Type 0
IsValue w (value.AuthorityKeyIdentifier x) = IsAuthority (authority_of x)
IsValue w (value.SubjectKeyIdentifier x) = Exactly (octets_line (codes "      Key identifier: ") x.now)
IsValue w (value.KeyUsage x) = Exactly (usage_text x.bits.octets.now)
IsValue w (value.CertificatePolicies x) = ArePolicies (list_octets x)
IsValue w (value.SubjectAltName x) = AreGeneralNames (codes "      ") (list_octets x)
IsValue w (value.IssuerAltName x) = AreGeneralNames (codes "      ") (list_octets x)
IsValue w (value.BasicConstraints x) = Exactly (constraints_text x)
IsValue w (value.NameConstraints x) = IsNameConstraints (name_constraints_of x)
IsValue w (value.ExtendedKeyUsage x) = ArePurposes (list_octets x)
IsValue w (value.CrlDistributionPoints x) = ArePoints (list_octets x)
IsValue w (value.FreshestCrl x) = ArePoints (list_octets x)
IsValue w (value.AuthorityInfoAccess x) = AreDescriptions (list_octets x)
IsValue w (value.SubjectInfoAccess x) = AreDescriptions (list_octets x)
IsValue w (value.PolicyMappings x) = AreMappings (list_octets x)
IsValue w (value.SubjectDirectoryAttributes x) = AreDirectoryAttributes (list_octets x)
IsValue w (value.PolicyConstraints x) = Exactly (policy_constraints_text x)
IsValue w (value.InhibitAnyPolicy n) = Exactly (line (codes "      Skip certificates: ") (decimal n))
IsValue w (value.CrlNumber x) = Exactly (number_line (codes "      Number: ") x.now)
IsValue w (value.DeltaCrlIndicator x) = Exactly (number_line (codes "      Base number: ") x.now)
IsValue w (value.IssuingDistributionPoint x) = IsIssuingPoint (issuing_point_of x)
IsValue w (value.InvalidityDate t) = Exactly (time_line (codes "      Invalid since: ") t)
IsValue w (value.CertificateIssuer x) = AreGeneralNames (codes "      ") (list_octets x)
IsValue w (value.SignedCertificateTimestamps x) = AreTimestamps (timestamps_octets x)
IsValue w value.PrecertificatePoison = Exactly []
IsValue w (value.TlsFeatures x) = AreFeatures (list_octets x)
IsValue w value.OcspNoCheck = Exactly []
IsValue w value.NoRevAvail = Exactly []
IsValue w (value.QcStatements x) = AreStatements (list_octets x)
IsValue w (value.OrganizationIdentifier x) = Exactly (organization_text (organization_identifier_of x))
IsValue w x = Exactly (octets_line (codes "      Octets: ") w)

-- the value as the type that the identifier names, or that it isn't of this type
abbrev pub IsResult : List ℕ → Result ExtensionValue (ReadError BerError) → List ℕ → Type 0
IsResult w (Ok x) = IsValue w x
IsResult w (Err e) = IsUnread (codes "      ") w e

abbrev pub IsRead : Extension → List ℕ → Type 0
IsRead e text = (r : Result ExtensionValue (ReadError BerError)) × ReadsExtension e r × IsResult e.value.now r text

abbrev pub critical_text : Bool → List ℕ
critical_text true = codes ", critical"
critical_text false = []

-- which extension it is, and whether it is critical, so far in
abbrev pub IsHeading : List ℕ → ExtensionFields → List ℕ → Type 0
IsHeading indent e = Exactly indent ⨾ (IsIdentifier e.identifier ⨾ Exactly (critical_text e.critical ++ codes "\n"))

-- an extension with these fields and its value
abbrev pub IsValueOf : ExtensionFields → List ℕ → Type 0
IsValueOf v text = (e : Extension) × (extension_of e ≡ v) × IsRead e text

abbrev pub IsExtension : ExtensionFields → List ℕ → Type 0
IsExtension v = IsHeading (codes "    ") v ⨾ IsValueOf v

abbrev pub AreExtensions : List ℕ → List ℕ → Type 0
AreExtensions i = Each (spells extension) IsExtension i

-- extensions after a heading, and nothing where there are none
abbrev pub IsExtensionList : List ℕ → List ℕ → List ℕ → Type 0
IsExtensionList heading i text = ((i ≡ []) × (text ≡ []))
    ⊎ ((i ≢ []) × (Exactly heading ⨾ AreExtensions i) text)
