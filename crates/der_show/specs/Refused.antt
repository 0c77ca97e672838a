-- The errors of the readers of certificates, CRLs and certification requests.
use Rattle.std.specs.Prelude.{◌≡◌, ℕ, ◌<◌, ◌≤◌, ◌⊎◌, nat_le, if◌then◌else◌, List, codes}
use Rattle.x509.specs.Crl.Lists.{field_fault as list_fault, whole_list}
use Rattle.der_base.specs.declared.error.Error.{Error as BerError}
use Rattle.der_cursor.specs.declared.error.ReadError.{ReadError}
use Rattle.x509_keys.specs.Request.Requests.{field_fault as request_fault, whole_request}
use Rattle.x509.specs.declared.error.Field.TheVariants.{Version}
use Rattle.x509.specs.Certificates.{whole_certificate}
use Rattle.x509.specs.Formats.{refuses, start}
use Rattle.x509.specs.Readers.{field_fault as certificate_fault}
use Rattle.der_show.specs.declared.refused.Refused.{Refused}
use Rattle.der_show.specs.declared.refused.Refused.TheVariants.{Certificate, CertificateList, CertificationRequest}

-- the offset and the reason
abbrev pub refusal_of : Refused → ReadError BerError
refusal_of (Certificate e) = e.refusal
refusal_of (CertificateList e) = e.refusal
refusal_of (CertificationRequest e) = e.refusal

-- the offset of the element with the error
abbrev pub offset_of : Refused → ℕ
offset_of (Certificate e) = e.refusal.offset
offset_of (CertificateList e) = e.refusal.offset
offset_of (CertificationRequest e) = e.refusal.offset

-- the name of the type that the reader reads (RFC 5280, RFC 2986)
abbrev pub type_name : Refused → List ℕ
type_name (Certificate e) = codes "Certificate"
type_name (CertificateList e) = codes "CertificateList"
type_name (CertificationRequest e) = codes "CertificationRequest"

-- this is the error as a certificate
abbrev pub IsOfCertificate : Refused → Type 0
IsOfCertificate (Certificate e) = Unit {0}
IsOfCertificate (CertificateList e) = ⊥
IsOfCertificate (CertificationRequest e) = ⊥

-- the error is in the version of a certificate
abbrev pub IsVersion : Refused → Type 0
IsVersion (Certificate e) = e.field ≡ Version
IsVersion (CertificateList e) = ⊥
IsVersion (CertificationRequest e) = ⊥

-- the order of the formats
abbrev pub order_of : Refused → ℕ
order_of (Certificate e) = 0
order_of (CertificateList e) = 1
order_of (CertificationRequest e) = 2

-- this is the error of octets, by its format
abbrev pub Refuses : List ℕ → Refused → Type 0
Refuses i (Certificate e) = refuses whole_certificate (start i) (certificate_fault e)
Refuses i (CertificateList e) = refuses whole_list (start i) (list_fault e)
Refuses i (CertificationRequest e) = refuses whole_request (start i) (request_fault e)

-- e comes before x: its offset is greater, or it is the same and the format of e comes first
abbrev pub ComesFirst : Refused → Refused → Type 0
ComesFirst e x = (offset_of x < offset_of e) ⊎ ((offset_of x ≡ offset_of e) × (order_of e ≤ order_of x))

-- the error with the greater offset, or a if both have the same
abbrev pub further : Refused → Refused → Refused
further a b = if nat_le (offset_of b) (offset_of a) then a else b
