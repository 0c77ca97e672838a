-- Certificates, as the ASN.1 of RFC 5280 writes them (4.1 and appendix A.1), in DER. Each line has its ASN.1 beside it.
use Rattle.std.specs.Prelude.{◌≡◌, ◌≢◌, ℕ, ◌⊎◌, ℤ, pos, negsuc, ◌==◌, if◌then◌else◌, Bool, false}
use Rattle.std.specs.Prelude.{Option, List, [], Result}
use Rattle.std.specs.Option.{option_map}
use Rattle.der_base.specs.declared.header.Class.TheVariants.{Universal}
use Rattle.der_base.specs.declared.rules.Rules.TheVariants.{Der}
use Rattle.der_base.specs.declared.time.ASN1DateTime.{ASN1DateTime}
use Rattle.der_base.specs.Numbers.{unsigned}
use Rattle.der_base.specs.Refusal.{wrong_value}
use Rattle.der_cursor.specs.Elements.{Element, IsNext, element_of}
use Rattle.der_values.specs.declared.bits.BitString.{BitString}
use Rattle.der_values.specs.Kinds.{bit_strings, booleans, borrowed_octets, identifiers, integers, numbers}
use Rattle.der_values.specs.Kinds.{octet_strings, times}
use Rattle.x509.specs.declared.algorithm.AlgorithmIdentifier.{AlgorithmIdentifier}
use Rattle.x509.specs.declared.algorithm.SubjectPublicKeyInfo.{SubjectPublicKeyInfo}
use Rattle.x509.specs.declared.certificate.Certificate.{Certificate}
use Rattle.x509.specs.declared.certificate.IssuerPart.{IssuerPart as IssuerStruct}
use Rattle.x509.specs.declared.certificate.SubjectPart.{SubjectPart as SubjectStruct}
use Rattle.x509.specs.declared.certificate.TbsCertificate.{TbsCertificate}
use Rattle.x509.specs.declared.certificate.Version.{Version}
use Rattle.x509.specs.declared.certificate.Version.TheVariants.{V1, V2, V3}
use Rattle.x509.specs.declared.extension.Extension.{Extension}
use Rattle.x509.specs.declared.name.AttributeTypeAndValue.{AttributeTypeAndValue}
use Rattle.x509.specs.declared.error.CertificateError.{CertificateError}
use Rattle.x509.specs.declared.error.Field.TheVariants as field
use Rattle.x509.specs.declared.time.Time.{Time}
use Rattle.x509.specs.declared.time.Time.TheVariants.{Generalized, Utc}
use Rattle.x509.specs.declared.time.Validity.{Validity}
use Rattle.x509.specs.Formats.{Fault, FieldFault, Format, ◌>>=◌, any, done, either, end_of_content}
use Rattle.x509.specs.Formats.{explicit_or, inside, list_of, named, optional_implicit, primitive}
use Rattle.x509.specs.Formats.{requiring, sequence, set}
use Rattle.x509.specs.Formats.{some_octets, with_octets, wrong_at}
use Rattle.x509.specs.Readers.{ReadsExactly, field_fault}

-- the octets of an element of any type, or none, to the end of the content
abbrev pub last_any : Format Fault (List ℕ)
last_any = either (λ i. i ≡ []) (done []) (with_octets any >>= λ x. end_of_content >>= λ u. done x.0)

pub record Algorithm : Type 0 where
  pub algorithm : List ℕ
  pub parameters : List ℕ

-- AlgorithmIdentifier  ::=  SEQUENCE  {
abbrev pub algorithm_identifier : Format Fault Algorithm
algorithm_identifier = sequence >>= λ content. inside content (do
  algorithm ← primitive Universal 6 identifiers  -- algorithm               OBJECT IDENTIFIER,
  parameters ← last_any  -- parameters              ANY DEFINED BY algorithm OPTIONAL  }
  done (record { algorithm = algorithm; parameters = parameters }))

pub record KeyInfo : Type 0 where
  pub algorithm : Algorithm
  pub key : ℕ × List ℕ

-- SubjectPublicKeyInfo  ::=  SEQUENCE  {
abbrev pub subject_public_key_info : Format Fault KeyInfo
subject_public_key_info = sequence >>= λ content. inside content (do
  algorithm ← algorithm_identifier  -- algorithm            AlgorithmIdentifier,
  key ← primitive Universal 3 (bit_strings Der)  -- subjectPublicKey     BIT STRING  }
  _ ← end_of_content
  done (record { algorithm = algorithm; key = key }))

-- Time ::= CHOICE {  utcTime  UTCTime,  generalTime  GeneralizedTime }
abbrev pub time : Format Fault Time
time = either (IsNext Universal 24)
    (primitive Universal 24 (times Der 24) >>= λ t. done (Generalized t))
    (primitive Universal 23 (times Der 23) >>= λ t. done (Utc t))

abbrev pub moment_of : Time → ASN1DateTime
moment_of (Utc t) = t
moment_of (Generalized t) = t

-- Validity ::= SEQUENCE {
abbrev pub validity : Format Fault Validity
validity = sequence >>= λ content. inside content (do
  not_before ← time  -- notBefore      Time,
  not_after ← time  -- notAfter       Time }
  _ ← end_of_content
  done (record { not_before = not_before; not_after = not_after }))

-- the octets of the identifier, and the value, which is an element of any type
pub record Attribute : Type 0 where
  pub identifier : List ℕ
  pub value : Element

-- AttributeTypeAndValue ::= SEQUENCE {
abbrev pub attribute : Format Fault Attribute
attribute = sequence >>= λ content. inside content (do
  identifier ← primitive Universal 6 identifiers  -- type     AttributeType,   -- OBJECT IDENTIFIER
  value ← any  -- value    AttributeValue } -- ANY DEFINED BY AttributeType
  _ ← end_of_content
  done (record { identifier = identifier; value = value }))

-- one attribute at least
abbrev pub attributes_to_end : Format Fault (Unit {0})
attributes_to_end = some_octets >>= λ u. list_of attribute

-- RelativeDistinguishedName ::= SET SIZE (1..MAX) OF AttributeTypeAndValue
abbrev pub relative_name : Format Fault (List ℕ)
relative_name = do
  content ← set
  _ ← inside content attributes_to_end
  done content

-- Name ::= CHOICE { rdnSequence  RDNSequence }
-- RDNSequence ::= SEQUENCE OF RelativeDistinguishedName
abbrev pub name : Format Fault (List ℕ)
name = do
  content ← sequence
  _ ← inside content (list_of relative_name)
  done content

-- the octets of the identifier, and those of the value
pub record ExtensionValue : Type 0 where
  pub identifier : List ℕ
  pub critical : Bool
  pub value : List ℕ

-- a BOOLEAN that is false if it is absent; false is not encoded (X.690 11.5)
abbrev pub boolean_or_false : Format Fault Bool
boolean_or_false = either (IsNext Universal 1) (requiring (λ v. v ≢ false) (wrong_at wrong_value)
    (primitive Universal 1 (booleans Der))) (done false)

-- Extension  ::=  SEQUENCE  {
abbrev pub extension : Format Fault ExtensionValue
extension = sequence >>= λ content. inside content (do
  identifier ← primitive Universal 6 identifiers  -- extnID      OBJECT IDENTIFIER,
  critical ← boolean_or_false  -- critical    BOOLEAN DEFAULT FALSE,
  value ← primitive Universal 4 octet_strings  -- extnValue   OCTET STRING  }
  _ ← end_of_content
  done (record { identifier = identifier; critical = critical; value = value }))

-- one extension at least
abbrev pub extensions_to_end : Format Fault (Unit {0})
extensions_to_end = some_octets >>= λ u. list_of extension

-- Extensions  ::=  SEQUENCE SIZE (1..MAX) OF Extension
abbrev pub extensions : Format Fault (List ℕ)
extensions = do
  content ← sequence
  _ ← inside content extensions_to_end
  done content

-- Version  ::=  INTEGER  {  v1(0), v2(1), v3(2)  }, where the default isn't encoded (X.690 11.5)
abbrev pub IsLaterNumber : ℤ → Type 0
IsLaterNumber n = (n ≡ pos 1) ⊎ (n ≡ pos 2)

abbrev pub later_version : ℤ → Version
later_version (pos n) = if n == 1 then V2 else V3
later_version (negsuc n) = V3

abbrev pub version : Format Fault Version
version = requiring IsLaterNumber (wrong_at wrong_value) (primitive Universal 2 (numbers Der (unsigned 32)))
    >>= λ n. done (later_version n)

pub record Tbs : Type 0 where
  pub version : Version
  pub serial_number : List ℕ
  pub signature : Algorithm
  pub issuer : List ℕ
  pub validity : Validity
  pub subject : List ℕ
  pub key_info : KeyInfo
  pub issuer_id : Option (ℕ × List ℕ)
  pub subject_id : Option (ℕ × List ℕ)
  pub extensions : List ℕ

-- TBSCertificate  ::=  SEQUENCE  {  its fields up to the validity,  those from the subject on  }
pub record IssuerPart : Type 0 where
  pub version : Version
  pub serial_number : List ℕ
  pub signature : Algorithm
  pub issuer : List ℕ
  pub validity : Validity

abbrev pub issuer_part : {V : Type 0} → (IssuerPart → Format FieldFault V) → Format FieldFault V
issuer_part rest = do
  -- version         [0]  EXPLICIT Version DEFAULT v1,
  v ← named field.Version (explicit_or V1 0 version)
  -- serialNumber         CertificateSerialNumber,   -- INTEGER
  serial_number ← named field.SerialNumber (primitive Universal 2 (integers Der))
  -- signature            AlgorithmIdentifier,
  signature ← named field.Signature algorithm_identifier
  -- issuer               Name,
  issuer ← named field.Issuer name
  -- validity             Validity,
  valid ← named field.Validity validity
  rest (record {
    version = v;
    serial_number = serial_number;
    signature = signature;
    issuer = issuer;
    validity = valid;
  })

pub record SubjectPart : Type 0 where
  pub subject : List ℕ
  pub key_info : KeyInfo
  pub issuer_id : Option (ℕ × List ℕ)
  pub subject_id : Option (ℕ × List ℕ)
  pub extensions : List ℕ

abbrev pub subject_part : {V : Type 0} → (SubjectPart → Format FieldFault V) → Format FieldFault V
subject_part rest = do
  -- subject              Name,
  subject ← named field.Subject name
  -- subjectPublicKeyInfo SubjectPublicKeyInfo,
  key_info ← named field.SubjectPublicKeyInfo subject_public_key_info
  -- issuerUniqueID  [1]  IMPLICIT UniqueIdentifier OPTIONAL,   -- BIT STRING
  issuer_id ← named field.IssuerUniqueId (optional_implicit 1 (bit_strings Der))
  -- subjectUniqueID [2]  IMPLICIT UniqueIdentifier OPTIONAL,
  subject_id ← named field.SubjectUniqueId (optional_implicit 2 (bit_strings Der))
  -- extensions      [3]  EXPLICIT Extensions OPTIONAL          }
  exts ← named field.Extensions (explicit_or [] 3 extensions)
  rest (record {
    subject = subject;
    key_info = key_info;
    issuer_id = issuer_id;
    subject_id = subject_id;
    extensions = exts;
  })

abbrev pub tbs_end : IssuerPart → SubjectPart → Format FieldFault Tbs
tbs_end i s = named field.TbsCertificate end_of_content >>= λ u. done (record {
  version = i.version;
  serial_number = i.serial_number;
  signature = i.signature;
  issuer = i.issuer;
  validity = i.validity;
  subject = s.subject;
  key_info = s.key_info;
  issuer_id = s.issuer_id;
  subject_id = s.subject_id;
  extensions = s.extensions;
})

abbrev pub tbs_certificate : Format FieldFault Tbs
tbs_certificate = named field.TbsCertificate sequence >>= λ content.
    inside content (issuer_part (λ i. subject_part (λ s. tbs_end i s)))

-- the octets that are signed, what they say, the algorithm, and the signature
pub record Signed : Type 0 where
  pub tbs : List ℕ
  pub tbs_certificate : Tbs
  pub algorithm : Algorithm
  pub signature : ℕ × List ℕ

-- Certificate  ::=  SEQUENCE  {
abbrev pub certificate : Format FieldFault Signed
certificate = named field.Certificate sequence >>= λ content. inside content (do
  tbs ← with_octets tbs_certificate  -- tbsCertificate       TBSCertificate,
  algorithm ← named field.SignatureAlgorithm algorithm_identifier  -- signatureAlgorithm   AlgorithmIdentifier,
  signature ← named field.SignatureValue (primitive Universal 3 (bit_strings Der))  -- signatureValue BIT STRING  }
  _ ← named field.Certificate end_of_content
  done (record { tbs = tbs.0; tbs_certificate = tbs.1; algorithm = algorithm; signature = signature }))

-- a certificate, and nothing after it
abbrev pub whole_certificate : Format FieldFault Signed
whole_certificate = do
  c ← certificate
  _ ← named field.Certificate end_of_content
  done c

-- What the values of the code stand for.
abbrev pub bits_of : BitString → ℕ × List ℕ
bits_of b = (b.unused, b.octets.now)

abbrev pub algorithm_of : AlgorithmIdentifier → Algorithm
algorithm_of a = record { algorithm = borrowed_octets a.algorithm; parameters = a.parameters.now }

abbrev pub key_info_of : SubjectPublicKeyInfo → KeyInfo
key_info_of k = record { algorithm = algorithm_of k.algorithm; key = bits_of k.subject_public_key }

abbrev pub attribute_of : AttributeTypeAndValue → Attribute
attribute_of a = record { identifier = borrowed_octets a.identifier; value = element_of a.value }

abbrev pub extension_of : Extension → ExtensionValue
extension_of e = record { identifier = borrowed_octets e.identifier; critical = e.critical; value = e.value.now }

abbrev pub issuer_part_of : IssuerStruct → IssuerPart
issuer_part_of p = record {
  version = p.version;
  serial_number = p.serial_number.now;
  signature = algorithm_of p.signature;
  issuer = p.issuer.octets.now;
  validity = p.validity;
}

abbrev pub subject_part_of : SubjectStruct → SubjectPart
subject_part_of p = record {
  subject = p.subject.octets.now;
  key_info = key_info_of p.subject_public_key_info;
  issuer_id = option_map bits_of p.issuer_unique_id;
  subject_id = option_map bits_of p.subject_unique_id;
  extensions = p.extensions.octets.now;
}

abbrev pub tbs_of : TbsCertificate → Tbs
tbs_of t = record {
  version = t.version;
  serial_number = t.serial_number.now;
  signature = algorithm_of t.signature;
  issuer = t.issuer.octets.now;
  validity = t.validity;
  subject = t.subject.octets.now;
  key_info = key_info_of t.subject_public_key_info;
  issuer_id = option_map bits_of t.issuer_unique_id;
  subject_id = option_map bits_of t.subject_unique_id;
  extensions = t.extensions.octets.now;
}

abbrev pub certificate_of : Certificate → Signed
certificate_of c = record {
  tbs = c.tbs.now;
  tbs_certificate = tbs_of c.tbs_certificate;
  algorithm = algorithm_of c.signature_algorithm;
  signature = bits_of c.signature_value;
}

-- A reader returns a certificate exactly where the octets are one; else the first fault.
abbrev pub ReadsCertificate : List ℕ → Result Certificate CertificateError → Type 0
ReadsCertificate i result = ReadsExactly field_fault certificate_of whole_certificate i result
