-- The octets of requests and their parts, beside their ASN.1.
use Rattle.std.specs.Borrow.{Bor}
use Rattle.std.specs.Prelude.{ℕ, pos, List, [], ◌∷◌, ◌++◌}
use Rattle.std.specs.List.{flat_map}
use Rattle.der_base.specs.declared.header.Class.TheVariants.{ContextSpecific}
use Rattle.der_writer.specs.Fields.{primitive, Integer, BitString, Null, ObjectIdentifier, Text, Sequence, Set, Tagged}
use Rattle.der_writer.specs.Fields.{OctetString}
use Rattle.x509_keys.specs.declared.request.writer.algorithm.AlgorithmIdentifier.{AlgorithmIdentifier}
use Rattle.x509_keys.specs.declared.request.writer.algorithm.Parameters.{Parameters}
use Rattle.x509_keys.specs.declared.request.writer.algorithm.Parameters.TheVariants as parameters
use Rattle.x509_keys.specs.declared.request.writer.algorithm.PublicKeyInfo.{PublicKeyInfo}
use Rattle.x509_keys.specs.declared.request.writer.algorithm.PublicKeyInfo.TheVariants as key_info
use Rattle.x509_keys.specs.declared.request.writer.name.NameAttribute.{NameAttribute}
use Rattle.x509_keys.specs.declared.request.writer.request.RequestInfo.{RequestInfo}

-- ANY DEFINED BY algorithm OPTIONAL                                     (RFC 5280 4.1.1.2)
abbrev pub parameter_octets : Parameters → List ℕ
parameter_octets parameters.Absent = []
parameter_octets parameters.Null = Null
parameter_octets (parameters.Element e) = e.now

-- AlgorithmIdentifier ::= SEQUENCE {
abbrev pub algorithm_octets : AlgorithmIdentifier → List ℕ
algorithm_octets a = Sequence (
    ObjectIdentifier a.algorithm.now  -- algorithm   OBJECT IDENTIFIER,
    ++ parameter_octets a.parameters)  -- parameters  ANY DEFINED BY algorithm OPTIONAL }

-- SubjectPublicKeyInfo ::= SEQUENCE {                                   (RFC 5280 4.1)
abbrev pub key_octets : AlgorithmIdentifier → List ℕ → List ℕ
key_octets a key = Sequence (
    algorithm_octets a  -- algorithm         AlgorithmIdentifier,
    ++ BitString 0 key)  -- subjectPublicKey  BIT STRING }

abbrev pub public_key_octets : PublicKeyInfo → List ℕ
public_key_octets (key_info.Element e) = e.now
public_key_octets (key_info.Key a key) = key_octets a key.now

-- RelativeDistinguishedName ::= SET SIZE (1..MAX) OF                    (RFC 5280 4.1.2.4)
-- AttributeTypeAndValue ::= SEQUENCE { type OBJECT IDENTIFIER, value ANY DEFINED BY type }
abbrev pub relative_name_octets : NameAttribute → List ℕ
relative_name_octets a = Set (Sequence (ObjectIdentifier a.identifier.now ++ Text a.string_type.0 a.text.now))

-- RDNSequence ::= SEQUENCE OF RelativeDistinguishedName
abbrev pub name_octets : List NameAttribute → List ℕ
name_octets xs = Sequence (flat_map relative_name_octets xs)

-- dNSName [2] IA5String, where tags are implicit                        (RFC 5280 4.2.1.6)
abbrev pub dns_name_octets : List ℕ → List ℕ
dns_name_octets n = primitive ContextSpecific 2 n

-- GeneralNames ::= SEQUENCE SIZE (1..MAX) OF GeneralName
abbrev pub alternative_name_octets : List (Bor (List ℕ)) → List ℕ
alternative_name_octets ns = Sequence (flat_map (λ n. dns_name_octets n.now) ns)

-- 1.2.840.113549.1.9.14, extensionRequest                               (RFC 2985 5.4.2)
abbrev pub extension_request : List ℕ
extension_request = 0x2A ∷ 0x86 ∷ 0x48 ∷ 0x86 ∷ 0xF7 ∷ 0x0D ∷ 0x01 ∷ 0x09 ∷ 0x0E ∷ []

-- 2.5.29.17, subjectAltName                                             (RFC 5280 4.2.1.6)
abbrev pub subject_alternative_name : List ℕ
subject_alternative_name = 0x55 ∷ 0x1D ∷ 0x11 ∷ []

-- Extension ::= SEQUENCE {                                              (RFC 5280 4.1)
abbrev pub extension_octets : List (Bor (List ℕ)) → List ℕ
extension_octets ns = Sequence (
    ObjectIdentifier subject_alternative_name  -- extnID     OBJECT IDENTIFIER,
    -- critical   BOOLEAN DEFAULT FALSE,
    ++ OctetString (alternative_name_octets ns))  -- extnValue  OCTET STRING }

-- Attribute ::= SEQUENCE {                                              (RFC 2986 4.1)
abbrev pub extension_request_octets : List (Bor (List ℕ)) → List ℕ
extension_request_octets ns = Sequence (
    ObjectIdentifier extension_request  -- type    OBJECT IDENTIFIER,
    -- values  SET SIZE (1..MAX) OF Extensions }, Extensions ::= SEQUENCE SIZE (1..MAX) OF Extension
    ++ Set (Sequence (extension_octets ns)))

-- Attributes ::= SET OF Attribute
abbrev pub attribute_octets : List (Bor (List ℕ)) → List ℕ
attribute_octets [] = []
attribute_octets (n ∷ ns) = extension_request_octets (n ∷ ns)

-- CertificationRequestInfo ::= SEQUENCE {                               (RFC 2986 4.1)
abbrev pub request_octets : RequestInfo → List ℕ
request_octets r = Sequence (
    Integer (pos 0)  -- version        INTEGER { v1(0) },
    ++ name_octets r.subject.now  -- subject        Name,
    ++ public_key_octets r.key_info  -- subjectPKInfo  SubjectPublicKeyInfo,
    ++ Tagged 0 (attribute_octets r.dns_names.now))  -- attributes     [0] IMPLICIT Attributes }
