-- Certification requests, as the ASN.1 of RFC 2986 writes them (4 and appendix A), in DER. Each line has its ASN.1
-- beside it.
use Rattle.std.specs.Prelude.{◌≡◌, ℕ, ◌⊎◌, true, false, pos, List, []}
use Rattle.der_base.specs.declared.error.Error.{Error as BerError}
use Rattle.der_base.specs.declared.header.Class.TheVariants.{ContextSpecific, Universal}
use Rattle.der_base.specs.declared.rules.Rules.TheVariants.{Der}
use Rattle.der_base.specs.Numbers.{unsigned}
use Rattle.der_base.specs.Refusal.{wrong_value}
use Rattle.der_cursor.specs.declared.error.ReadError.{ReadError}
use Rattle.der_cursor.specs.Elements.{Element}
use Rattle.der_values.specs.Kinds.{bit_strings, borrowed_octets, identifiers, numbers}
use Rattle.x509_keys.specs.declared.request.attribute.Attribute.{Attribute as AttributeStruct}
use Rattle.x509_keys.specs.declared.request.error.Field.{Field}
use Rattle.x509_keys.specs.declared.request.error.Field.TheVariants as field
use Rattle.x509_keys.specs.declared.request.error.CertificationRequestError.{CertificationRequestError}
use Rattle.x509_keys.specs.declared.request.CertificationRequest.{CertificationRequest}
use Rattle.x509_keys.specs.declared.request.CertificationRequestInfo.{CertificationRequestInfo}
use Rattle.x509.specs.Certificates.{Algorithm, KeyInfo, algorithm_identifier, algorithm_of, bits_of, extensions}
use Rattle.x509.specs.Certificates.{key_info_of, name, subject_public_key_info}
use Rattle.x509.specs.Formats.{Fault, Format, ◌>>=◌, any, done, element, end_of_content, inside, list_of, named}
use Rattle.x509.specs.Formats.{primitive, requiring, sequence, set, some_octets, spells, with_octets, wrong_at}
use Rattle.x509.specs.Readers.{fault_of}

-- the field, and what is wrong with it
abbrev pub FieldFault : Type 0
FieldFault = Field × Fault

-- one value at least, each an element of any type
abbrev pub values_to_end : Format Fault (Unit {0})
values_to_end = some_octets >>= λ u. list_of any

-- SET SIZE(1..MAX) OF ATTRIBUTE.&Type({IOSet}{@type})
abbrev pub values : Format Fault (List ℕ)
values = do
  content ← set
  _ ← inside content values_to_end
  done content

-- the octets of the identifier, and those of the values
pub record Attribute : Type 0 where
  pub identifier : List ℕ
  pub values : List ℕ

-- Attribute { ATTRIBUTE:IOSet } ::= SEQUENCE {
abbrev pub attribute : Format Fault Attribute
attribute = sequence >>= λ content. inside content (do
  identifier ← primitive Universal 6 identifiers  -- type   ATTRIBUTE.&id({IOSet}),   -- OBJECT IDENTIFIER
  vs ← values  -- values SET SIZE(1..MAX) OF ATTRIBUTE.&Type({IOSet}{@type}) }
  _ ← end_of_content
  done (record { identifier = identifier; values = vs }))

-- [0] Attributes{{ CRIAttributes }}, where tags are implicit
-- Attributes { ATTRIBUTE:IOSet } ::= SET OF Attribute{{ IOSet }}
abbrev pub attributes : Format Fault (List ℕ)
attributes = do
  content ← element ContextSpecific true 0
  _ ← inside content (list_of attribute)
  done content

-- INTEGER { v1(0) } (v1,...)
abbrev pub version : Format Fault (Unit {0})
version = requiring (λ n. n ≡ pos 0) (wrong_at wrong_value) (primitive Universal 2 (numbers Der (unsigned 32)))
    >>= λ n. done tt

pub record Info : Type 0 where
  pub subject : List ℕ
  pub key_info : KeyInfo
  pub attributes : List ℕ

-- CertificationRequestInfo ::= SEQUENCE {
abbrev pub request_info : Format FieldFault Info
request_info = named field.CertificationRequestInfo sequence >>= λ content. inside content (do
  _ ← named field.Version version  -- version       INTEGER { v1(0) } (v1,...),
  subject ← named field.Subject name  -- subject       Name,
  -- subjectPKInfo SubjectPublicKeyInfo{{ PKInfoAlgorithms }},
  key_info ← named field.SubjectPublicKeyInfo subject_public_key_info
  list ← named field.Attributes attributes  -- attributes    [0] Attributes{{ CRIAttributes }} }
  _ ← named field.CertificationRequestInfo end_of_content
  done (record { subject = subject; key_info = key_info; attributes = list }))

-- the octets that are signed, what they say, the algorithm, and the signature
pub record Signed : Type 0 where
  pub octets : List ℕ
  pub info : Info
  pub algorithm : Algorithm
  pub signature : ℕ × List ℕ

-- CertificationRequest ::= SEQUENCE {
abbrev pub request : Format FieldFault Signed
request = named field.CertificationRequest sequence >>= λ content. inside content (do
  info ← with_octets request_info  -- certificationRequestInfo CertificationRequestInfo,
  -- signatureAlgorithm       AlgorithmIdentifier{{ SignatureAlgorithms }},
  algorithm ← named field.SignatureAlgorithm algorithm_identifier
  signature ← named field.Signature (primitive Universal 3 (bit_strings Der))  -- signature BIT STRING }
  _ ← named field.CertificationRequest end_of_content
  done (record { octets = info.0; info = info.1; algorithm = algorithm; signature = signature }))

-- a request, and nothing after it
abbrev pub whole_request : Format FieldFault Signed
whole_request = do
  r ← request
  _ ← named field.CertificationRequest end_of_content
  done r

-- the values of the attribute extensionRequest (RFC 2985 5.4.2), of which there is one:
-- ExtensionRequest ::= Extensions
abbrev pub extension_request : Format Fault (List ℕ)
extension_request = do
  es ← extensions
  _ ← end_of_content
  done es

-- the numbers of UTF8String, PrintableString, TeletexString, UniversalString and BMPString
abbrev pub IsDirectoryStringType : ℕ → Type 0
IsDirectoryStringType t = (t ≡ 12) ⊎ (t ≡ 19) ⊎ (t ≡ 20) ⊎ (t ≡ 28) ⊎ (t ≡ 30)

-- DirectoryString { INTEGER : maxSize } ::= CHOICE { teletexString TeletexString (SIZE(1..maxSize)), .. } (X.520 2.6),
-- of which the size isn't asked
abbrev pub IsDirectoryString : Element → Type 0
IsDirectoryString e = (e.0 ≡ Universal) × (e.1 ≡ false) × IsDirectoryStringType e.2

abbrev pub directory_string : Format Fault Element
directory_string = requiring IsDirectoryString (wrong_at wrong_value) any

-- the values of the attribute challengePassword (RFC 2985 5.4.1), of which there is one:
-- WITH SYNTAX DirectoryString {pkcs-9-ub-challengePassword}
abbrev pub challenge_password : Format Fault Element
challenge_password = do
  password ← directory_string
  _ ← end_of_content
  done password

-- the octets that are signed say what was read, and nothing else
abbrev pub SignedOctetsAreRead : Type 0
SignedOctetsAreRead = (i : List ℕ) (c : Signed) → spells whole_request i c [] → spells request_info c.octets c.info []

-- What the values of the code stand for.
abbrev pub attribute_of : AttributeStruct → Attribute
attribute_of a = record { identifier = borrowed_octets a.identifier; values = a.values.octets.now }

abbrev pub info_of : CertificationRequestInfo → Info
info_of x = record {
  subject = x.subject.octets.now;
  key_info = key_info_of x.subject_public_key_info;
  attributes = x.attributes.octets.now;
}

abbrev pub request_of : CertificationRequest → Signed
request_of r = record {
  octets = r.info_octets.now;
  info = info_of r.info;
  algorithm = algorithm_of r.signature_algorithm;
  signature = bits_of r.signature;
}

-- a refusal of a field, and what it says
abbrev pub request_refusal : Field → ReadError BerError → CertificationRequestError
request_refusal n e = record { field = n; refusal = e }

abbrev pub field_fault : CertificationRequestError → FieldFault
field_fault e = (e.field, fault_of e.refusal)
