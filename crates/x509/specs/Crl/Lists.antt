-- Lists of revoked certificates, as the ASN.1 of RFC 5280 writes them (5.1 and appendix A.1), in DER. Each line has its
-- ASN.1 beside it.
use Rattle.std.specs.Option.{option_map}
use Rattle.std.specs.Prelude.{◌≡◌, ◌⊎◌, ℕ, pos, Option, Some, None, List, []}
use Rattle.der_base.specs.declared.error.Error.{Error as BerError}
use Rattle.der_base.specs.declared.header.Class.TheVariants.{Universal}
use Rattle.der_base.specs.declared.rules.Rules.TheVariants.{Der}
use Rattle.der_base.specs.Numbers.{unsigned}
use Rattle.der_base.specs.Refusal.{wrong_value}
use Rattle.der_cursor.specs.declared.error.ReadError.{ReadError}
use Rattle.der_cursor.specs.Elements.{IsNext}
use Rattle.der_values.specs.Kinds.{bit_strings, integers, numbers}
use Rattle.x509.specs.declared.crl.entry.RevokedCertificate.{RevokedCertificate}
use Rattle.x509.specs.declared.crl.list.CertificateList.{CertificateList}
use Rattle.x509.specs.declared.crl.list.TbsCertList.{TbsCertList}
use Rattle.x509.specs.declared.crl.lists.RevokedIter.{RevokedIter}
use Rattle.x509.specs.declared.crl.error.Field.{Field}
use Rattle.x509.specs.declared.crl.error.Field.TheVariants as field
use Rattle.x509.specs.declared.crl.error.CertificateListError.{CertificateListError}
use Rattle.x509.specs.declared.certificate.Version.{Version}
use Rattle.x509.specs.declared.certificate.Version.TheVariants.{V1, V2}
use Rattle.x509.specs.declared.time.Time.{Time}
use Rattle.x509.specs.Certificates.{Algorithm, algorithm_identifier, algorithm_of, bits_of, extensions, name, time}
use Rattle.x509.specs.Formats.{Fault, Format, ◌>>=◌, done, either, end_of_content, explicit_or, inside}
use Rattle.x509.specs.Formats.{list_of, named, primitive, requiring, sequence, spells, with_octets, wrong_at}
use Rattle.x509.specs.Readers.{fault_of}

-- the field, and what is wrong with it
abbrev pub FieldFault : Type 0
FieldFault = Field × Fault

-- a value, or none where the octets aren't so
abbrev pub optional : {V : Type 0} → (List ℕ → Type 0) → Format Fault V → Format Fault (Option V)
optional P f = either P (f >>= λ v. done (Some v)) (done None)

-- Version, which is v2(1) if it is present; else the version is the first (5.1.2.1)
abbrev pub second_version : Format Fault Version
second_version = requiring (λ n. n ≡ pos 1) (wrong_at wrong_value) (primitive Universal 2 (numbers Der (unsigned 32)))
    >>= λ n. done V2

abbrev pub version : Format Fault Version
version = either (IsNext Universal 2) second_version (done V1)

-- Time OPTIONAL
abbrev pub IsTimeNext : List ℕ → Type 0
IsTimeNext i = IsNext Universal 23 i ⊎ IsNext Universal 24 i

abbrev pub next_update : Format Fault (Option Time)
next_update = optional IsTimeNext time

-- Extensions OPTIONAL
abbrev pub entry_extensions : Format Fault (List ℕ)
entry_extensions = either (IsNext Universal 16) extensions (done [])

pub record Revoked : Type 0 where
  pub user_certificate : List ℕ
  pub revocation_date : Time
  pub extensions : List ℕ

-- SEQUENCE  {
abbrev pub revoked_certificate : Format Fault Revoked
revoked_certificate = sequence >>= λ content. inside content (do
  number ← primitive Universal 2 (integers Der)  -- userCertificate         CertificateSerialNumber,   -- INTEGER
  date ← time  -- revocationDate          Time,
  exts ← entry_extensions  -- crlEntryExtensions      Extensions OPTIONAL  }
  _ ← end_of_content
  done (record { user_certificate = number; revocation_date = date; extensions = exts }))

-- SEQUENCE OF SEQUENCE  { .. }
abbrev pub revoked_certificates : Format Fault (List ℕ)
revoked_certificates = do
  content ← sequence
  _ ← inside content (list_of revoked_certificate)
  done content

abbrev pub optional_revoked : Format Fault (Option (List ℕ))
optional_revoked = optional (IsNext Universal 16) revoked_certificates

pub record Tbs : Type 0 where
  pub version : Version
  pub signature : Algorithm
  pub issuer : List ℕ
  pub this_update : Time
  pub next_update : Option Time
  pub revoked : Option (List ℕ)
  pub extensions : List ℕ

-- TBSCertList  ::=  SEQUENCE  {
abbrev pub tbs_cert_list : Format FieldFault Tbs
tbs_cert_list = named field.TbsCertList sequence >>= λ content. inside content (do
  v ← named field.Version version  -- version                 Version OPTIONAL, -- if present, MUST be v2
  signature ← named field.Signature algorithm_identifier  -- signature               AlgorithmIdentifier,
  issuer ← named field.Issuer name  -- issuer                  Name,
  this ← named field.ThisUpdate time  -- thisUpdate              Time,
  next ← named field.NextUpdate next_update  -- nextUpdate              Time OPTIONAL,
  -- revokedCertificates     SEQUENCE OF SEQUENCE  { .. } OPTIONAL,
  revoked ← named field.RevokedCertificates optional_revoked
  -- crlExtensions           [0]  EXPLICIT Extensions OPTIONAL  }
  exts ← named field.CrlExtensions (explicit_or [] 0 extensions)
  _ ← named field.TbsCertList end_of_content
  done (record {
    version = v;
    signature = signature;
    issuer = issuer;
    this_update = this;
    next_update = next;
    revoked = revoked;
    extensions = exts;
  }))

-- the octets that are signed, what they say, the algorithm, and the signature
pub record Signed : Type 0 where
  pub tbs : List ℕ
  pub tbs_cert_list : Tbs
  pub algorithm : Algorithm
  pub signature : ℕ × List ℕ

-- CertificateList  ::=  SEQUENCE  {
abbrev pub certificate_list : Format FieldFault Signed
certificate_list = named field.CertificateList sequence >>= λ content. inside content (do
  tbs ← with_octets tbs_cert_list  -- tbsCertList          TBSCertList,
  algorithm ← named field.SignatureAlgorithm algorithm_identifier  -- signatureAlgorithm   AlgorithmIdentifier,
  signature ← named field.SignatureValue (primitive Universal 3 (bit_strings Der))  -- signatureValue BIT STRING  }
  _ ← named field.CertificateList end_of_content
  done (record { tbs = tbs.0; tbs_cert_list = tbs.1; algorithm = algorithm; signature = signature }))

-- a list, and nothing after it
abbrev pub whole_list : Format FieldFault Signed
whole_list = do
  l ← certificate_list
  _ ← named field.CertificateList end_of_content
  done l

-- the octets that are signed say what was read, and nothing else
abbrev pub SignedOctetsAreRead : Type 0
SignedOctetsAreRead = (i : List ℕ) (c : Signed) → spells whole_list i c []
    → spells tbs_cert_list c.tbs c.tbs_cert_list []

-- What the values of the code stand for.
abbrev pub revoked_of : RevokedCertificate → Revoked
revoked_of r = record {
  user_certificate = r.user_certificate.now;
  revocation_date = r.revocation_date;
  extensions = r.crl_entry_extensions.octets.now;
}

abbrev pub tbs_of : TbsCertList → Tbs
tbs_of t = record {
  version = t.version;
  signature = algorithm_of t.signature;
  issuer = t.issuer.octets.now;
  this_update = t.this_update;
  next_update = t.next_update;
  revoked = option_map (λ r. r.octets.now) t.revoked_certificates;
  extensions = t.crl_extensions.octets.now;
}

abbrev pub certificate_list_of : CertificateList → Signed
certificate_list_of l = record {
  tbs = l.tbs.now;
  tbs_cert_list = tbs_of l.tbs_cert_list;
  algorithm = algorithm_of l.signature_algorithm;
  signature = bits_of l.signature_value;
}

-- the octets of the entries that an iterator has not yet given
abbrev pub entries_left : RevokedIter → List ℕ
entries_left r = r.left.now

-- a refusal of a field, and what it says
abbrev pub list_refusal : Field → ReadError BerError → CertificateListError
list_refusal n e = record { field = n; refusal = e }

abbrev pub field_fault : CertificateListError → FieldFault
field_fault e = (e.field, fault_of e.refusal)
