-- Requests and their parts as formats of der_cursor, and the values of what is written.
use Rattle.std.specs.Borrow.{Bor}
use Rattle.std.specs.Prelude.{◌≡◌, ◌≢◌, ℕ, ◌^◌, ◌<◌, ℤ, pos, Bool, false, Option, Some, None, List, [], ◌∷◌}
use Rattle.std.specs.Prelude.{map, IsTrue, All}
use Rattle.der_base.specs.declared.header.Class.TheVariants.{Universal}
use Rattle.der_base.specs.declared.header.Length.TheVariants.{Definite}
use Rattle.der_base.specs.Numbers.{unsigned}
use Rattle.der_base.specs.Octets.{identifier}
use Rattle.der_base.specs.Text.{is_text_type, IsTextOf}
use Rattle.der_cursor.specs.Formats.{Format, Required, Default, IfLeft, AnyElement, Choice, ◌⨾◌, Only, End}
use Rattle.der_cursor.specs.Formats.{Each, Sequence, Set, Implicit, Limited, Element, Boolean, Number, BitString}
use Rattle.der_cursor.specs.Formats.{OctetStringOf, ObjectIdentifier, Text}
use Rattle.der_values.specs.Kinds.{EndsSubidentifier, HasPaddedArc}
use Rattle.der_writer.specs.Formats.Encodings.{Encodes, EncodesOnly}
use Rattle.x509_keys.specs.declared.request.writer.algorithm.AlgorithmIdentifier.{AlgorithmIdentifier}
use Rattle.x509_keys.specs.declared.request.writer.algorithm.Parameters.{Parameters}
use Rattle.x509_keys.specs.declared.request.writer.algorithm.Parameters.TheVariants as parameters
use Rattle.x509_keys.specs.declared.request.writer.algorithm.PublicKeyInfo.{PublicKeyInfo}
use Rattle.x509_keys.specs.declared.request.writer.algorithm.PublicKeyInfo.TheVariants as key_info
use Rattle.x509_keys.specs.declared.request.writer.name.NameAttribute.{NameAttribute}
use Rattle.x509_keys.specs.declared.request.writer.request.RequestInfo.{RequestInfo}
use Rattle.x509_keys.specs.Request.Writer.Octets.{extension_request, subject_alternative_name}
use Rattle.x509_keys.specs.Request.Writer.Octets.{algorithm_octets, public_key_octets, name_octets}
use Rattle.x509_keys.specs.Request.Writer.Octets.{alternative_name_octets}
use Rattle.x509_keys.specs.Request.Writer.Octets.{request_octets}

-- Formats.

-- SIZE (1..MAX)
abbrev pub Filled : {V : Type 0} → Format (List V) → Format (List V)
Filled T = Limited (λ v. v ≢ []) T

abbrev pub AlgorithmValue : Type 0
AlgorithmValue = List ℕ × (Option Element × Unit {0})

-- AlgorithmIdentifier ::= SEQUENCE {                                    (RFC 5280 4.1.1.2)
abbrev pub Algorithm : Format AlgorithmValue
Algorithm = Sequence (
    Required ObjectIdentifier  -- algorithm   OBJECT IDENTIFIER,
    ⨾ (IfLeft AnyElement  -- parameters  ANY DEFINED BY algorithm OPTIONAL }
    ⨾ End))

abbrev pub KeyValue : Type 0
KeyValue = AlgorithmValue × ((ℕ × List ℕ) × Unit {0})

-- SubjectPublicKeyInfo ::= SEQUENCE {                                   (RFC 5280 4.1)
abbrev pub PublicKey : Format KeyValue
PublicKey = Sequence (
    Required Algorithm  -- algorithm         AlgorithmIdentifier,
    ⨾ (Required BitString  -- subjectPublicKey  BIT STRING }
    ⨾ End))

-- the identifier of the type, the number of the string type, and the octets of the text
abbrev pub AttributeValue : Type 0
AttributeValue = List ℕ × ((ℕ × List ℕ) × Unit {0})

-- AttributeTypeAndValue ::= SEQUENCE {                                  (RFC 5280 4.1.2.4)
abbrev pub TypeAndValue : Format AttributeValue
TypeAndValue = Sequence (
    Required ObjectIdentifier  -- type   OBJECT IDENTIFIER,
    ⨾ (Choice Text  -- value  ANY DEFINED BY type }
    ⨾ End))

-- RelativeDistinguishedName ::= SET SIZE (1..MAX) OF AttributeTypeAndValue
abbrev pub RelativeName : Format (List AttributeValue)
RelativeName = Filled (Set (Each (Required TypeAndValue)))

-- RDNSequence ::= SEQUENCE OF RelativeDistinguishedName
abbrev pub Name : Format (List (List AttributeValue))
Name = Sequence (Each (Required RelativeName))

-- dNSName [2] IA5String, where tags are implicit                        (RFC 5280 4.2.1.6)
abbrev pub DnsName : Format (List ℕ)
DnsName = Implicit 2 (Text 22)

-- GeneralNames ::= SEQUENCE SIZE (1..MAX) OF GeneralName, each a DNS name
abbrev pub AlternativeNames : Format (List (List ℕ))
AlternativeNames = Filled (Sequence (Each (Required DnsName)))

abbrev pub ExtensionValue : Type 0
ExtensionValue = List ℕ × (Bool × (List (List ℕ) × Unit {0}))

-- Extension ::= SEQUENCE {                                              (RFC 5280 4.1)
abbrev pub Extension : Format ExtensionValue
Extension = Sequence (
    Required ObjectIdentifier  -- extnID     OBJECT IDENTIFIER,
    ⨾ (Default Boolean false  -- critical   BOOLEAN DEFAULT FALSE,
    ⨾ (Required (OctetStringOf (Only (Required AlternativeNames)))  -- extnValue  OCTET STRING }
    ⨾ End)))

-- Extensions ::= SEQUENCE SIZE (1..MAX) OF Extension
abbrev pub Extensions : Format (List ExtensionValue)
Extensions = Filled (Sequence (Each (Required Extension)))

abbrev pub RequestAttributeValue : Type 0
RequestAttributeValue = List ℕ × (List (List ExtensionValue) × Unit {0})

-- Attribute ::= SEQUENCE {                                              (RFC 2986 4.1)
abbrev pub RequestAttribute : Format RequestAttributeValue
RequestAttribute = Sequence (
    Required ObjectIdentifier  -- type    OBJECT IDENTIFIER,
    ⨾ (Required (Filled (Set (Each (Required Extensions))))  -- values  SET SIZE (1..MAX) OF Extensions }
    ⨾ End))

abbrev pub RequestValue : Type 0
RequestValue = ℤ × (List (List AttributeValue) × (KeyValue × (List RequestAttributeValue × Unit {0})))

-- CertificationRequestInfo ::= SEQUENCE {                               (RFC 2986 4.1)
abbrev pub Request : Format RequestValue
Request = Sequence (
    Required (Number (unsigned 32))  -- version        INTEGER { v1(0) },
    ⨾ (Required Name  -- subject        Name,
    ⨾ (Required PublicKey  -- subjectPKInfo  SubjectPublicKeyInfo,
    ⨾ (Required (Implicit 0 (Set (Each (Required RequestAttribute))))  -- attributes     [0] IMPLICIT SET OF Attribute }
    ⨾ End))))

-- What the structs stand for.

-- NULL, with its header
abbrev pub null_element : Element
null_element = (Universal, false, 5, [], Definite 0, Some (identifier Universal false 5))

abbrev pub AreParameters : Parameters → Option Element → Type 0
AreParameters parameters.Absent v = v ≡ None
AreParameters parameters.Null v = v ≡ Some null_element
AreParameters (parameters.Element e) v = (x : Element) × (v ≡ Some x) × (e.now ≢ []) × Encodes AnyElement x e.now

abbrev pub IsIdentifier : List ℕ → Type 0
IsIdentifier w = EndsSubidentifier w × (¬ HasPaddedArc w)

pub record IsAlgorithm (a : AlgorithmIdentifier) (v : AlgorithmValue) : Type 0 where
  pub valid : IsIdentifier a.algorithm.now
  pub identifier : v.0 ≡ a.algorithm.now
  pub parameters : AreParameters a.parameters v.1.0

abbrev pub IsKey : PublicKeyInfo → KeyValue → Type 0
IsKey (key_info.Element e) v = Encodes (Required PublicKey) v e.now
IsKey (key_info.Key a key) v = IsAlgorithm a v.0 × (v.1.0 ≡ (0, key.now))

pub record IsAttribute (a : NameAttribute) : Type 0 where
  pub identifier : IsIdentifier a.identifier.now
  pub small : a.string_type.0 < 2 ^ 32
  pub string_type : IsTrue (is_text_type a.string_type.0)
  pub text : IsTextOf a.string_type.0 a.text.now

abbrev pub attribute_of : NameAttribute → AttributeValue
attribute_of a = (a.identifier.now, ((a.string_type.0, a.text.now), tt))

abbrev pub name_of : List NameAttribute → List (List AttributeValue)
name_of xs = map (λ a. attribute_of a ∷ []) xs

-- IA5String
abbrev pub IsDnsName : Bor (List ℕ) → Type 0
IsDnsName n = IsTextOf 22 n.now

abbrev pub dns_names_of : List (Bor (List ℕ)) → List (List ℕ)
dns_names_of ns = map (λ n. n.now) ns

abbrev pub extension_of : List (Bor (List ℕ)) → ExtensionValue
extension_of ns = (subject_alternative_name, (false, (dns_names_of ns, tt)))

abbrev pub attributes_of : List (Bor (List ℕ)) → List RequestAttributeValue
attributes_of [] = []
attributes_of (n ∷ ns) = (extension_request, (((extension_of (n ∷ ns) ∷ []) ∷ []), tt)) ∷ []

abbrev pub request_of : RequestInfo → KeyValue → RequestValue
request_of r key = (pos 0, (name_of r.subject.now, (key, (attributes_of r.dns_names.now, tt))))

-- Laws: what is written is read with the values that were put.

abbrev pub AlgorithmsEncode : Type 0
AlgorithmsEncode = (a : AlgorithmIdentifier) (v : AlgorithmValue) → IsAlgorithm a v
    → Encodes (Required Algorithm) v (algorithm_octets a)

abbrev pub KeysEncode : Type 0
KeysEncode = (k : PublicKeyInfo) (v : KeyValue) → IsKey k v → Encodes (Required PublicKey) v (public_key_octets k)

abbrev pub NamesEncode : Type 0
NamesEncode = (xs : List NameAttribute) → All IsAttribute xs → Encodes (Required Name) (name_of xs) (name_octets xs)

abbrev pub AlternativeNamesEncode : Type 0
AlternativeNamesEncode = (ns : List (Bor (List ℕ))) → ns ≢ [] → All IsDnsName ns
    → Encodes (Required AlternativeNames) (dns_names_of ns) (alternative_name_octets ns)

abbrev pub RequestsEncode : Type 0
RequestsEncode = (r : RequestInfo) (key : KeyValue) → All IsAttribute r.subject.now → IsKey r.key_info key
    → All IsDnsName r.dns_names.now → Encodes (Required Request) (request_of r key) (request_octets r)

-- what is read with these values is what is written
abbrev pub RequestsAreWritten : Type 0
RequestsAreWritten = (r : RequestInfo) (key : KeyValue) → All IsAttribute r.subject.now → IsKey r.key_info key
    → All IsDnsName r.dns_names.now → EncodesOnly (Required Request) (request_of r key) (request_octets r)
