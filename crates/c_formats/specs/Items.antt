-- Items of the lists of a certificate as C sees them.
use Rattle.std.specs.Prelude.{◌≡◌, ℕ, Option, Some, None, List, []}
use Rattle.std.specs.Option.{option_map, unwrap_or}
use Rattle.der_base.specs.Header.{class_of, is_constructed, number_of}
use Rattle.der_extensions.specs.declared.general_name.GeneralName.{GeneralName}
use Rattle.der_extensions.specs.declared.known.KnownExtension.{KnownExtension}
use Rattle.der_extensions.specs.declared.known.KnownExtension.TheVariants as known
use Rattle.der_extensions.specs.GeneralNames.{NameValue, name_of, other_name, rfc822_name, dns_name, x400_address}
use Rattle.der_extensions.specs.GeneralNames.{directory_name, edi_party_name, uniform_resource_identifier, ip_address}
use Rattle.der_extensions.specs.GeneralNames.{registered_id}
use Rattle.der_extensions.specs.Known.{IdentifiesExtension}
use Rattle.der_values.specs.declared.identifier.ObjectIdentifier.{ObjectIdentifier}
use Rattle.der_values.specs.Kinds.{borrowed_octets}
use Rattle.x509.specs.declared.extension.Extension.{Extension}
use Rattle.x509.specs.declared.name.AttributeTypeAndValue.{AttributeTypeAndValue}
use Rattle.x509.specs.declared.name.RelativeDistinguishedName.{RelativeDistinguishedName}
use Rattle.x509.specs.Certificates.{ExtensionValue, extension_of}
use Rattle.c_values.specs.declared.octets.DmOctets.{DmOctets}
use Rattle.c_values.specs.Elements.{bit, class_number}
use Rattle.c_formats.specs.declared.items.DmAttribute.{DmAttribute}
use Rattle.c_formats.specs.declared.items.DmExtension.{DmExtension}
use Rattle.c_formats.specs.declared.items.DmGeneralName.{DmGeneralName}

-- the octets that a list has left
abbrev pub left : DmOctets → List ℕ
left d = d.octets.now

-- the item that was taken is written, and 1; or there is none, and 0
abbrev pub Taken : {T V : Type 0} → (T → V → Type 0) → Option T → V → V → ℕ → Type 0
Taken Is (Some x) old new n = Is x new × (n ≡ 1)
Taken Is None old new n = (new ≡ old) × (n ≡ 0)

-- a call in C takes an item: `Yields` says what it may be, and what is left
abbrev pub Takes : {T V : Type 0} → (Option T → Type 0) → (T → V → Type 0) → V → V → ℕ → Type 0
Takes {T} Yields Is old new n = (found : Option T) × Yields found × Taken Is found old new n

abbrev pub IsRelativeName : RelativeDistinguishedName → DmOctets → Type 0
IsRelativeName n d = d.octets.now ≡ n.octets.now

abbrev pub IsPurpose : ObjectIdentifier → DmOctets → Type 0
IsPurpose x d = d.octets.now ≡ borrowed_octets x

-- the fields are those of the attribute (RFC 5280 4.1.2.4)
pub record HasAttribute (a : AttributeTypeAndValue) (d : DmAttribute) : Type 0 where
  pub identifier : d.identifier.now ≡ borrowed_octets a.identifier
  pub value : d.value.now ≡ a.value.bytes.now
  pub number : d.number ≡ number_of a.value.header
  pub class : d.tag_class ≡ class_number (class_of a.value.header)
  pub constructed : d.constructed ≡ bit (is_constructed a.value.header)
  pub reserved : d.reserved ≡ 0

abbrev pub IsAttribute : AttributeTypeAndValue → DmAttribute → Type 0
IsAttribute a d = HasAttribute a d

-- The number of an extension: the last arc of its identifier, or one from 256 on.
abbrev pub kind_number : KnownExtension → ℕ
kind_number known.AuthorityInfoAccess = 1
kind_number known.QcStatements = 3
kind_number known.SubjectDirectoryAttributes = 9
kind_number known.SubjectInfoAccess = 11
kind_number known.SubjectKeyIdentifier = 14
kind_number known.KeyUsage = 15
kind_number known.SubjectAltName = 17
kind_number known.IssuerAltName = 18
kind_number known.BasicConstraints = 19
kind_number known.CrlNumber = 20
kind_number known.ReasonCode = 21
kind_number known.InvalidityDate = 24
kind_number known.DeltaCrlIndicator = 27
kind_number known.IssuingDistributionPoint = 28
kind_number known.CertificateIssuer = 29
kind_number known.NameConstraints = 30
kind_number known.CrlDistributionPoints = 31
kind_number known.CertificatePolicies = 32
kind_number known.PolicyMappings = 33
kind_number known.AuthorityKeyIdentifier = 35
kind_number known.PolicyConstraints = 36
kind_number known.ExtendedKeyUsage = 37
kind_number known.FreshestCrl = 46
kind_number known.InhibitAnyPolicy = 54
kind_number known.NoRevAvail = 56
kind_number known.TlsFeature = 256
kind_number known.OcspNoCheck = 257
kind_number known.SignedCertificateTimestamps = 258
kind_number known.PrecertificatePoison = 259
kind_number known.OrganizationIdentifier = 260

-- the number of the extension with this identifier, given its content octets; 0 if it is unknown
abbrev pub IsExtensionKind : List ℕ → ℕ → Type 0
IsExtensionKind w n = (k : Option KnownExtension) × IdentifiesExtension w k
    × (n ≡ unwrap_or (option_map kind_number k) 0)

-- the fields are those of the extension (4.1.2.9)
pub record HasExtension (x : ExtensionValue) (d : DmExtension) : Type 0 where
  pub identifier : d.identifier.now ≡ x.identifier
  pub value : d.value.now ≡ x.value
  pub critical : d.critical ≡ bit x.critical
  pub kind : IsExtensionKind x.identifier d.kind

abbrev pub IsExtension : Extension → DmExtension → Type 0
IsExtension e d = HasExtension (extension_of e) d

-- the octets of a name, the identifier of its type, and the number of its kind (4.2.1.6)
abbrev pub name_in : DmGeneralName → List ℕ × List ℕ × ℕ × ℕ
name_in d = (d.octets.now, d.identifier.now, d.kind, d.reserved)

abbrev pub name_parts : NameValue → List ℕ × List ℕ × ℕ × ℕ
name_parts (other_name v) = (v.1.0.3, v.0, 0, 0)
name_parts (rfc822_name w) = (w, [], 1, 0)
name_parts (dns_name w) = (w, [], 2, 0)
name_parts (x400_address w) = (w, [], 3, 0)
name_parts (directory_name w) = (w, [], 4, 0)
name_parts (edi_party_name w) = (w, [], 5, 0)
name_parts (uniform_resource_identifier w) = (w, [], 6, 0)
name_parts (ip_address w) = (w, [], 7, 0)
name_parts (registered_id w) = (w, [], 8, 0)

abbrev pub IsGeneralName : GeneralName → DmGeneralName → Type 0
IsGeneralName n d = name_in d ≡ name_parts (name_of n)
