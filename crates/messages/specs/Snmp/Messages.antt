-- Messages, as their ASN.1 has them, and what the structs of the code stand for.
use Rattle.std.specs.Prelude.{◌≡◌, ℕ, ℤ, pos, true, false, List, length, map, Result}
use Rattle.std.specs.Net.Addr.{ipv4_octets}
use Rattle.der_base.specs.declared.error.Error.{Error as BerError}
use Rattle.der_base.specs.declared.header.Class.{Class}
use Rattle.der_base.specs.declared.header.Class.TheVariants.{Application, ContextSpecific}
use Rattle.der_base.specs.declared.rules.Rules.TheVariants.{Ber}
use Rattle.der_base.specs.Numbers.{signed, unsigned}
use Rattle.der_cursor.specs.Elements.{SpellsElement}
use Rattle.der_cursor.specs.Formats.{As, Choice, Content, Element, Field, Format, Required, ◌⨾◌, End, Each, Sequence}
use Rattle.der_cursor.specs.Formats.{Constructed, Implicit, Tagged, Primitive, Limited}
use Rattle.der_cursor.specs.Formats.{Number, OctetString, ObjectIdentifier}
use Rattle.der_cursor.specs.Formats.{ReadsWhole, Never}
use Rattle.der_values.specs.Kinds.{borrowed_octets}
use Rattle.messages.specs.declared.snmp.message.Binding.{Binding}
use Rattle.messages.specs.declared.snmp.message.Content.{Content as ContentStruct}
use Rattle.messages.specs.declared.snmp.message.Content.TheVariants.{Common, Trap as TrapVariant}
use Rattle.messages.specs.declared.snmp.message.Message.{Message as MessageStruct}
use Rattle.messages.specs.declared.snmp.message.Operation.{Operation}
use Rattle.messages.specs.declared.snmp.message.Operation.TheVariants.{Trap}
use Rattle.messages.specs.declared.snmp.message.Pdu.{Pdu as PduStruct}
use Rattle.messages.specs.declared.snmp.message.Value.{Value}
use Rattle.messages.specs.declared.snmp.message.Value.TheVariants.{Integer, OctetString as Octets, Null, Identifier}
use Rattle.messages.specs.declared.snmp.message.Value.TheVariants.{Address}
use Rattle.messages.specs.declared.snmp.message.Value.TheVariants.{Counter32, Gauge32, TimeTicks, Opaque, Counter64}
use Rattle.messages.specs.declared.snmp.message.Value.TheVariants.{NoSuchObject, NoSuchInstance, EndOfMibView}
use Rattle.messages.specs.declared.snmp.message.Version.{Version}
use Rattle.messages.specs.declared.snmp.message.Version.TheVariants.{One, TwoC}
use Rattle.messages.specs.Snmp.Operations.{has, number_of}

-- Values.

-- a value of a binding: its number or its octets
pub data Syntax : Type 0 where
  integer counter32 gauge32 time_ticks counter64 : ℤ → Syntax
  octet_string identifier address opaque : List ℕ → Syntax
  null no_such_object no_such_instance end_of_mib_view : Syntax

abbrev pub Empty : Format (Unit {0})
Empty = Primitive 5 End

-- IpAddress ::= [APPLICATION 0] IMPLICIT OCTET STRING (SIZE (4))             (RFC 1155 3.2.3.2, RFC 2578 2)
abbrev pub IpAddress : Format (List ℕ)
IpAddress = Tagged Application 0 (Limited (λ w. length w ≡ 4) OctetString)

-- TimeTicks ::= [APPLICATION 3] IMPLICIT INTEGER (0..4294967295)
abbrev pub Ticks : Format ℤ
Ticks = Tagged Application 3 (Number (unsigned 32))

-- an element of this class and number with these content octets is of the type T, by BER
abbrev pub Is : {V : Type 0} → Format V → V → Class → ℕ → List ℕ → Type 0
Is T x c t w = (c ≡ T.class) × (t ≡ T.number) × T.content Ber w x

-- ObjectSyntax, and what a response has in its place                         (RFC 2578 2, RFC 3416 3)
abbrev pub IsSyntax : Syntax → Class → ℕ → List ℕ → Type 0
IsSyntax (integer n) = Is (Number (signed 32)) n
IsSyntax (octet_string w) = Is OctetString w
IsSyntax null = Is Empty tt
IsSyntax (identifier w) = Is ObjectIdentifier w
IsSyntax (address w) = Is IpAddress w
IsSyntax (counter32 n) = Is (Tagged Application 1 (Number (unsigned 32))) n
IsSyntax (gauge32 n) = Is (Tagged Application 2 (Number (unsigned 32))) n
IsSyntax (time_ticks n) = Is Ticks n
IsSyntax (opaque w) = Is (Tagged Application 4 OctetString) w
IsSyntax (counter64 n) = Is (Tagged Application 6 (Number (unsigned 64))) n
IsSyntax no_such_object = Is (Implicit 0 Empty) tt
IsSyntax no_such_instance = Is (Implicit 1 Empty) tt
IsSyntax end_of_mib_view = Is (Implicit 2 Empty) tt

unfoldable pub ObjectSyntax : Field Syntax
ObjectSyntax r i v rest = (c : Class) × (t : ℕ) × (w : List ℕ) × IsSyntax v c t w
    × SpellsElement r c false t i (w, rest)

abbrev pub BindingValue : Type 0
BindingValue = List ℕ × (Syntax × Unit {0})

-- VarBind ::= SEQUENCE { name ObjectName, value ObjectSyntax }                (RFC 1157 4, RFC 3416 3)
abbrev pub VarBind : Format BindingValue
VarBind = Sequence (Required ObjectIdentifier ⨾ (ObjectSyntax ⨾ End))

abbrev pub VarBindList : Format (List BindingValue)
VarBindList = Sequence (Each (Required VarBind))

-- PDUs.

abbrev pub CommonValue : Type 0
CommonValue = ℤ × (ℤ × (ℤ × (List BindingValue × Unit {0})))

abbrev pub TrapValue : Type 0
TrapValue = List ℕ × (List ℕ × (ℤ × (ℤ × (ℤ × (List BindingValue × Unit {0})))))

pub data ContentValue : Type 0 where
  common : CommonValue → ContentValue
  trap : TrapValue → ContentValue

-- PDU ::= SEQUENCE {                                                          (RFC 1157 4.1.1, RFC 3416 3)
abbrev pub CommonContent : Content ContentValue
CommonContent = As common (
    Required (Number (signed 32))  -- request-id         INTEGER,
    ⨾ (Required (Number (unsigned 32))  -- error-status       INTEGER,
    ⨾ (Required (Number (unsigned 32))  -- error-index        INTEGER,
    ⨾ (Required VarBindList  -- variable-bindings  VarBindList }
    ⨾ End))))

-- Trap-PDU ::= [4] IMPLICIT SEQUENCE {                                        (RFC 1157 4.1.6)
abbrev pub TrapContent : Content ContentValue
TrapContent = As trap (
    Required ObjectIdentifier  -- enterprise         OBJECT IDENTIFIER,
    ⨾ (Required IpAddress  -- agent-addr         NetworkAddress,
    ⨾ (Required (Number (unsigned 32))  -- generic-trap       INTEGER,
    ⨾ (Required (Number (signed 32))  -- specific-trap      INTEGER,
    ⨾ (Required Ticks  -- time-stamp         TimeTicks,
    ⨾ (Required VarBindList  -- variable-bindings  VarBindList }
    ⨾ End))))))

abbrev pub pdu_content : Operation → Content ContentValue
pdu_content Trap = TrapContent
pdu_content o = CommonContent

-- [n] IMPLICIT, with the number of the operation                              (RFC 1157 4, RFC 3416 3)
abbrev pub PduFormat : Operation → Format ContentValue
PduFormat o = Constructed ContextSpecific (number_of o) (pdu_content o)

-- PDUs, of any version: the operation, and the content
abbrev pub PduValue : Type 0
PduValue = Operation × ContentValue

abbrev pub Pdus : Field PduValue
Pdus = Choice PduFormat

-- Messages.

abbrev pub version_number : Version → ℤ
version_number One = pos 0
version_number TwoC = pos 1

abbrev pub VersionFormat : Format Version
VersionFormat = Primitive 2 (λ r w v. (Number (unsigned 32)).content r w (version_number v))

abbrev pub MessageValue : Type 0
MessageValue = Version × (List ℕ × (PduValue × Unit {0}))

-- Message ::= SEQUENCE {                                                      (RFC 1157 4, RFC 1901 3)
abbrev pub MessageFields : Content MessageValue
MessageFields =
    Required VersionFormat  -- version    INTEGER { version-1(0), version-2(1) },
    ⨾ (Required OctetString  -- community  OCTET STRING,
    ⨾ (Pdus  -- data       ANY }
    ⨾ End))

-- the version has the operation of the message
abbrev pub IsOfVersion : MessageValue → Type 0
IsOfVersion m = has m.0 m.1.1.0.0 ≡ true

abbrev pub MessageContent : Content MessageValue
MessageContent r w m = MessageFields r w m × IsOfVersion m

abbrev pub Message : Format MessageValue
Message = Sequence MessageContent

-- What the structs stand for.

abbrev pub syntax_of : Value → Syntax
syntax_of (Integer n) = integer n
syntax_of (Octets w) = octet_string w.now
syntax_of Null = null
syntax_of (Identifier x) = identifier (borrowed_octets x)
syntax_of (Address x) = address (ipv4_octets x)
syntax_of (Counter32 n) = counter32 (pos n)
syntax_of (Gauge32 n) = gauge32 (pos n)
syntax_of (TimeTicks n) = time_ticks (pos n)
syntax_of (Opaque w) = opaque w.now
syntax_of (Counter64 n) = counter64 (pos n)
syntax_of NoSuchObject = no_such_object
syntax_of NoSuchInstance = no_such_instance
syntax_of EndOfMibView = end_of_mib_view

abbrev pub binding_of : Binding → BindingValue
binding_of b = (borrowed_octets b.name, (syntax_of b.value, tt))

abbrev pub content_of : ContentStruct → ContentValue
content_of (Common n s i v) = common (n, (pos s, (pos i, (map binding_of v.items, tt))))
content_of (TrapVariant e a g s t v) =
    trap (borrowed_octets e, (ipv4_octets a, (pos g, (s, (pos t, (map binding_of v.items, tt))))))

abbrev pub pdu_of : PduStruct → PduValue
pdu_of p = (p.operation, content_of p.content)

abbrev pub message_of : MessageStruct → MessageValue
message_of m = (m.version, (m.community.now, (pdu_of m.pdu, tt)))

-- a value of an element, if it is primitive and of one of the types
abbrev pub ReadsSyntax : Element → Result Value BerError → Type 0
ReadsSyntax e result = ReadsWhole (λ v. (e.1 ≡ false) × IsSyntax v e.0 e.2 e.3) syntax_of Never result
