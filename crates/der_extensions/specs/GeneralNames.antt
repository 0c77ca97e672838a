-- General names (RFC 5280 4.2.1.6), as their ASN.1 has them, and the values of the types in the code.
use Rattle.std.specs.Prelude.{◌≡◌, ℕ, List}
use Rattle.der_cursor.specs.Formats.{AnyElement, Element, End, Explicit, Field, Format, Implicit, ObjectIdentifier}
use Rattle.der_cursor.specs.Formats.{OctetString, Octets, Required, Sequence, Set, Text, element_of, ◌⨾◌}
use Rattle.der_extensions.specs.declared.general_name.GeneralName.{GeneralName as NameEnum}
use Rattle.der_extensions.specs.declared.general_name.GeneralName.TheVariants as kind
use Rattle.der_extensions.specs.declared.general_name.OtherName.{OtherName as OtherStruct}
use Rattle.der_extensions.specs.Lists.{ListOf, SomeOf}
use Rattle.der_values.specs.Kinds.{borrowed_octets}
use Rattle.x509.specs.declared.name.AttributeTypeAndValue.{AttributeTypeAndValue as AttributeStruct}

abbrev pub AttributeValue : Type 0
AttributeValue = List ℕ × (Element × Unit {0})

-- AttributeTypeAndValue ::= SEQUENCE {                                  (4.1.2.4)
abbrev pub AttributeTypeAndValue : Format AttributeValue
AttributeTypeAndValue = Sequence (
    Required ObjectIdentifier  -- type     AttributeType,   -- OBJECT IDENTIFIER
    ⨾ (AnyElement  -- value    AttributeValue } -- ANY DEFINED BY AttributeType
    ⨾ End))

-- RelativeDistinguishedName ::= SET SIZE (1..MAX) OF AttributeTypeAndValue
-- As in a certificate, the order of the attributes isn't checked.
abbrev pub RelativeDistinguishedName : Format (List ℕ)
RelativeDistinguishedName = Set (SomeOf (Required AttributeTypeAndValue))

-- Name ::= CHOICE { rdnSequence RDNSequence }, RDNSequence ::= SEQUENCE OF RelativeDistinguishedName
abbrev pub Name : Format (List ℕ)
Name = Sequence (ListOf (Required RelativeDistinguishedName))

abbrev pub OtherNameValue : Type 0
OtherNameValue = List ℕ × (Element × Unit {0})

-- OtherName ::= SEQUENCE {                                              (4.2.1.6)
abbrev pub OtherName : Format OtherNameValue
OtherName = Sequence (
    Required ObjectIdentifier  -- type-id    OBJECT IDENTIFIER,
    ⨾ (Required (Explicit 0 AnyElement)  -- value      [0] EXPLICIT ANY DEFINED BY type-id }
    ⨾ End))

-- a name by its kind, with its text, octets or identifier
pub data NameValue : Type 0 where
  other_name : OtherNameValue → NameValue
  rfc822_name : List ℕ → NameValue
  dns_name : List ℕ → NameValue
  x400_address : List ℕ → NameValue
  directory_name : List ℕ → NameValue
  edi_party_name : List ℕ → NameValue
  uniform_resource_identifier : List ℕ → NameValue
  ip_address : List ℕ → NameValue
  registered_id : List ℕ → NameValue

-- GeneralName ::= CHOICE {                                              (4.2.1.6)
-- The content octets of an ORAddress and of an EDIPartyName aren't checked. A tag of a choice is explicit.
unfoldable pub GeneralName : Field NameValue
-- otherName                 [0]  OtherName,
GeneralName r i (other_name v) rest = Required (Implicit 0 OtherName) r i v rest
-- rfc822Name                [1]  IA5String,
GeneralName r i (rfc822_name v) rest = Required (Implicit 1 (Text 22)) r i v rest
-- dNSName                   [2]  IA5String,
GeneralName r i (dns_name v) rest = Required (Implicit 2 (Text 22)) r i v rest
-- x400Address               [3]  ORAddress,   -- SEQUENCE
GeneralName r i (x400_address v) rest = Required (Implicit 3 (Sequence Octets)) r i v rest
-- directoryName             [4]  Name,   -- CHOICE
GeneralName r i (directory_name v) rest = Required (Explicit 4 (Required Name)) r i v rest
-- ediPartyName              [5]  EDIPartyName,   -- SEQUENCE
GeneralName r i (edi_party_name v) rest = Required (Implicit 5 (Sequence Octets)) r i v rest
-- uniformResourceIdentifier [6]  IA5String,
GeneralName r i (uniform_resource_identifier v) rest = Required (Implicit 6 (Text 22)) r i v rest
-- iPAddress                 [7]  OCTET STRING,
GeneralName r i (ip_address v) rest = Required (Implicit 7 OctetString) r i v rest
-- registeredID              [8]  OBJECT IDENTIFIER }
GeneralName r i (registered_id v) rest = Required (Implicit 8 ObjectIdentifier) r i v rest

-- GeneralNames ::= SEQUENCE SIZE (1..MAX) OF GeneralName
abbrev pub GeneralNames : Format (List ℕ)
GeneralNames = Sequence (SomeOf GeneralName)

-- a field that is one alternative of a choice
unfoldable pub Chosen : {V W : Type 0} → (V → W) → Field V → Field W
Chosen {V} alternative F r i w rest = (v : V) × (w ≡ alternative v) × F r i v rest

abbrev pub attribute_of : AttributeStruct → AttributeValue
attribute_of a = (borrowed_octets a.identifier, (element_of a.value, tt))

abbrev pub other_name_of : OtherStruct → OtherNameValue
other_name_of n = (borrowed_octets n.type_id, (element_of n.value, tt))

abbrev pub name_of : NameEnum → NameValue
name_of (kind.OtherName n) = other_name (other_name_of n)
name_of (kind.Rfc822Name s) = rfc822_name s.now
name_of (kind.DnsName s) = dns_name s.now
name_of (kind.X400Address w) = x400_address w.now
name_of (kind.DirectoryName n) = directory_name n.octets.now
name_of (kind.EdiPartyName w) = edi_party_name w.now
name_of (kind.UniformResourceIdentifier s) = uniform_resource_identifier s.now
name_of (kind.IpAddress w) = ip_address w.now
name_of (kind.RegisteredId x) = registered_id (borrowed_octets x)
