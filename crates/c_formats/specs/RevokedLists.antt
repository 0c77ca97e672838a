-- Lists of revoked certificates as C sees them.
use Rattle.std.specs.Prelude.{◌≡◌, ℕ, is_some, Some, []}
use Rattle.std.specs.Option.{unwrap_or}
use Rattle.x509.specs.declared.crl.entry.RevokedCertificate.{RevokedCertificate}
use Rattle.x509.specs.declared.crl.list.CertificateList.{CertificateList}
use Rattle.x509.specs.declared.crl.reason.Reason.{Reason}
use Rattle.x509.specs.declared.crl.error.CertificateListError.{CertificateListError}
use Rattle.x509.specs.Crl.Lists.{Revoked, Signed, certificate_list_of, revoked_of}
use Rattle.x509.specs.Crl.Reasons.{number_of}
use Rattle.der_extensions.specs.declared.issuing_distribution_point.IssuingDistributionPoint as issuing
use Rattle.der_extensions.specs.Revocation.{IssuingPointValue, issuing_point_of}
use Rattle.c_values.specs.declared.fault.DmFault.{DmFault}
use Rattle.c_values.specs.Parts.{algorithm_in, bits_in, bits_numbers, moment_fields, optional_moment_fields}
use Rattle.c_values.specs.Parts.{version_number}
use Rattle.c_values.specs.Elements.{bit}
use Rattle.c_values.specs.Faults.{field_fault}
use Rattle.c_formats.specs.declared.revocation.DmIssuingDistributionPoint.{DmIssuingDistributionPoint}
use Rattle.c_formats.specs.declared.revoked.DmCertificateList.{DmCertificateList}
use Rattle.c_formats.specs.declared.revoked.DmRevoked.{DmRevoked}
use Rattle.c_formats.specs.ExtensionLists.{HasPointName}
use Rattle.c_formats.specs.FieldNumbers.{list_field_number}

-- the fields are those of the list (RFC 5280 5.1)
pub record HasList (c : Signed) (d : DmCertificateList) : Type 0 where
  pub tbs : d.tbs.now ≡ c.tbs
  pub version : d.version ≡ version_number c.tbs_cert_list.version
  pub signature : algorithm_in d.signature ≡ c.tbs_cert_list.signature
  pub issuer : d.issuer.now ≡ c.tbs_cert_list.issuer
  pub this_update : d.this_update ≡ moment_fields c.tbs_cert_list.this_update
  pub next_update : d.next_update ≡ optional_moment_fields c.tbs_cert_list.next_update
  pub revoked : d.revoked.now ≡ unwrap_or c.tbs_cert_list.revoked []
  pub has_revoked : d.has_revoked ≡ bit (is_some c.tbs_cert_list.revoked)
  pub extensions : d.extensions.now ≡ c.tbs_cert_list.extensions
  pub signature_algorithm : algorithm_in d.signature_algorithm ≡ c.algorithm
  pub signature_value : bits_in d.signature_value ≡ bits_numbers (Some c.signature)

abbrev pub IsList : CertificateList → DmCertificateList → Type 0
IsList l d = HasList (certificate_list_of l) d

abbrev pub list_fault : CertificateListError → DmFault
list_fault e = field_fault (list_field_number e.field) e.refusal

-- the fields are those of the entry (5.1.2.6)
pub record HasRevoked (r : Revoked) (d : DmRevoked) : Type 0 where
  pub serial_number : d.serial_number.now ≡ r.user_certificate
  pub date : d.date ≡ moment_fields r.revocation_date
  pub extensions : d.extensions.now ≡ r.extensions
  pub reserved : d.reserved ≡ 0

abbrev pub IsRevoked : RevokedCertificate → DmRevoked → Type 0
IsRevoked r d = HasRevoked (revoked_of r) d

-- the number of a reason (5.3.1)
abbrev pub IsReason : Reason → ℕ → Type 0
IsReason r n = n ≡ number_of r

-- the fields are those of the point (5.2.5)
pub record HasIssuingPoint (x : IssuingPointValue) (d : DmIssuingDistributionPoint) : Type 0 where
  pub name : HasPointName x.0 d.full_name.now d.relative_name.now
  pub only_contains_user_certs : d.only_contains_user_certs ≡ bit x.1.0
  pub only_contains_ca_certs : d.only_contains_ca_certs ≡ bit x.1.1.0
  pub reasons : bits_in d.reasons ≡ bits_numbers x.1.1.1.0
  pub indirect_crl : d.indirect_crl ≡ bit x.1.1.1.1.0
  pub only_contains_attribute_certs : d.only_contains_attribute_certs ≡ bit x.1.1.1.1.1.0

abbrev pub IsIssuingPoint : issuing.IssuingDistributionPoint → DmIssuingDistributionPoint → Type 0
IsIssuingPoint x d = HasIssuingPoint (issuing_point_of x) d
