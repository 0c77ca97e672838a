-- Certificates as C sees them.
use Rattle.std.specs.Prelude.{◌≡◌, Some}
use Rattle.x509.specs.declared.certificate.Certificate.{Certificate}
use Rattle.x509.specs.declared.error.CertificateError.{CertificateError}
use Rattle.x509.specs.declared.rules.StrictError.{StrictError}
use Rattle.x509.specs.declared.rules.StrictError.TheVariants.{NotRead, Broken}
use Rattle.x509.specs.Certificates.{Signed, certificate_of}
use Rattle.c_values.specs.declared.fault.DmFault.{DmFault}
use Rattle.c_values.specs.Faults.{field_fault, rule_fault}
use Rattle.c_values.specs.Parts.{algorithm_in, bits_in, bits_numbers, moment_fields, version_number}
use Rattle.c_formats.specs.declared.certificate.DmCertificate.{DmCertificate}
use Rattle.c_formats.specs.FieldNumbers.{certificate_field_number}

-- the fields are those of the certificate (RFC 5280 4.1)
pub record HasCertificate (c : Signed) (d : DmCertificate) : Type 0 where
  pub tbs : d.tbs.now ≡ c.tbs
  pub version : d.version ≡ version_number c.tbs_certificate.version
  pub serial_number : d.serial_number.now ≡ c.tbs_certificate.serial_number
  pub signature : algorithm_in d.signature ≡ c.tbs_certificate.signature
  pub issuer : d.issuer.now ≡ c.tbs_certificate.issuer
  pub not_before : d.not_before ≡ moment_fields c.tbs_certificate.validity.not_before
  pub not_after : d.not_after ≡ moment_fields c.tbs_certificate.validity.not_after
  pub subject : d.subject.now ≡ c.tbs_certificate.subject
  pub key_algorithm : algorithm_in d.key_algorithm ≡ c.tbs_certificate.key_info.algorithm
  pub key : bits_in d.key ≡ bits_numbers (Some c.tbs_certificate.key_info.key)
  pub issuer_unique_id : bits_in d.issuer_unique_id ≡ bits_numbers c.tbs_certificate.issuer_id
  pub subject_unique_id : bits_in d.subject_unique_id ≡ bits_numbers c.tbs_certificate.subject_id
  pub extensions : d.extensions.now ≡ c.tbs_certificate.extensions
  pub signature_algorithm : algorithm_in d.signature_algorithm ≡ c.algorithm
  pub signature_value : bits_in d.signature_value ≡ bits_numbers (Some c.signature)
  pub reserved : d.reserved ≡ 0

abbrev pub IsCertificate : Certificate → DmCertificate → Type 0
IsCertificate c d = HasCertificate (certificate_of c) d

abbrev pub certificate_fault : CertificateError → DmFault
certificate_fault e = field_fault (certificate_field_number e.field) e.refusal

abbrev pub strict_fault : StrictError → DmFault
strict_fault (NotRead e) = certificate_fault e
strict_fault (Broken r) = rule_fault r
