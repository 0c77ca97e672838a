-- What x509_keys::request reads strictly, and the octets that it is.
use Rattle.std.specs.Prelude.{◌≡◌, ℕ, ◌≤◌, Option, Some, None, List, [], ◌++◌, length, All}
use Rattle.std.specs.List.{flat_map}
use Rattle.der_base.specs.Encoding.{element}
use Rattle.der_base.specs.Spelling.{max_object_size}
use Rattle.der_cursor.specs.Formats.{Element}
use Rattle.x509_keys.specs.Request.Requests.{Info, Signed, request_info, whole_request}
use Rattle.der_writer.specs.Fields.{BitString, ObjectIdentifier, Sequence}
use Rattle.der_writer.specs.Formats.Encodings.{AreOctets}
use Rattle.x509.specs.Certificates.{Algorithm, KeyInfo}
use Rattle.x509.specs.Formats.{spells}
use Rattle.x509_keys.specs.declared.request.writer.algorithm.AlgorithmIdentifier.{AlgorithmIdentifier}
use Rattle.x509_keys.specs.declared.request.writer.request.RequestInfo.{RequestInfo}
use Rattle.x509_keys.specs.Request.Writer.Formats.{AlgorithmValue, KeyValue, IsAlgorithm, IsAttribute, IsDnsName, IsKey}
use Rattle.x509_keys.specs.Request.Writer.Octets.{algorithm_octets, attribute_octets, public_key_octets}
use Rattle.x509_keys.specs.Request.Writer.Octets.{relative_name_octets}
use Rattle.x509_keys.specs.Request.Writer.Octets.{request_octets}

-- AlgorithmIdentifier ::= SEQUENCE {                                    (RFC 5280 4.1.1.2)
abbrev pub octets_of_algorithm : Algorithm → List ℕ
octets_of_algorithm a = Sequence (
    ObjectIdentifier a.algorithm  -- algorithm   OBJECT IDENTIFIER,
    ++ a.parameters)  -- parameters  ANY DEFINED BY algorithm OPTIONAL }

-- SubjectPublicKeyInfo ::= SEQUENCE {                                   (RFC 5280 4.1)
abbrev pub octets_of_key : KeyInfo → List ℕ
octets_of_key k = Sequence (
    octets_of_algorithm k.algorithm  -- algorithm         AlgorithmIdentifier,
    ++ BitString k.key.0 k.key.1)  -- subjectPublicKey  BIT STRING }

-- what was read has the octets of these values
pub record IsInfoOf (r : RequestInfo) (x : Info) : Type 0 where
  pub subject : x.subject ≡ flat_map relative_name_octets r.subject.now
  pub key_info : octets_of_key x.key_info ≡ public_key_octets r.key_info
  pub attributes : x.attributes ≡ attribute_octets r.dns_names.now

-- then it is read from the octets that are written for these values
abbrev pub InfosAreWritten : Type 0
InfosAreWritten = (r : RequestInfo) (x : Info) (i rest : List ℕ) → AreOctets i → IsInfoOf r x
    → spells request_info i x rest → i ≡ request_octets r ++ rest

-- The values of formats, as x509_keys::request has them.

-- the octets of an element, if there is one
abbrev pub any_octets : Option Element → List ℕ
any_octets None = []
any_octets (Some e) = element e.0 e.1 e.2 e.3

abbrev pub strict_algorithm : AlgorithmValue → Algorithm
strict_algorithm v = record { algorithm = v.0; parameters = any_octets v.1.0 }

abbrev pub strict_key : KeyValue → KeyInfo
strict_key v = record { algorithm = strict_algorithm v.0; key = v.1.0 }

abbrev pub strict_info : RequestInfo → KeyValue → Info
strict_info r key = record {
  subject = flat_map relative_name_octets r.subject.now;
  key_info = strict_key key;
  attributes = attribute_octets r.dns_names.now;
}

-- what is written is read strictly, with the values that were put
abbrev pub InfosAreRead : Type 0
InfosAreRead = (r : RequestInfo) (key : KeyValue) → All IsAttribute r.subject.now → IsKey r.key_info key
    → All IsDnsName r.dns_names.now → length (request_octets r) ≤ max_object_size → (rest : List ℕ)
    → spells request_info (request_octets r ++ rest) (strict_info r key) rest

-- CertificationRequest ::= SEQUENCE {                                   (RFC 2986 4.2)
abbrev pub signed_octets : RequestInfo → AlgorithmIdentifier → List ℕ → List ℕ
signed_octets r a s = Sequence (
    request_octets r  -- certificationRequestInfo  CertificationRequestInfo,
    ++ algorithm_octets a  -- signatureAlgorithm        AlgorithmIdentifier,
    ++ BitString 0 s)  -- signature                 BIT STRING }

abbrev pub strict_request : RequestInfo → KeyValue → AlgorithmValue → List ℕ → Signed
strict_request r key v s = record {
  octets = request_octets r;
  info = strict_info r key;
  algorithm = strict_algorithm v;
  signature = (0, s);
}

-- and so is a request of it, an algorithm and a signature
abbrev pub SignedAreRead : Type 0
SignedAreRead = (r : RequestInfo) (key : KeyValue) (a : AlgorithmIdentifier) (v : AlgorithmValue) (s : List ℕ)
    → All IsAttribute r.subject.now → IsKey r.key_info key → All IsDnsName r.dns_names.now → IsAlgorithm a v
    → length (signed_octets r a s) ≤ max_object_size
    → spells whole_request (signed_octets r a s) (strict_request r key v s) []
