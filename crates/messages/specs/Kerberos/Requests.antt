-- Requests for tickets, as their ASN.1 has them (RFC 4120), and what the structs of the code stand for.
use Rattle.std.specs.Borrow.{Bor}
use Rattle.std.specs.Prelude.{◌≡◌, ℕ, ℤ, pos, Option, List, map}
use Rattle.std.specs.Option.{option_map}
use Rattle.der_base.specs.declared.header.Class.TheVariants.{Application}
use Rattle.der_base.specs.declared.time.ASN1DateTime.{ASN1DateTime}
use Rattle.der_base.specs.Numbers.{signed, unsigned}
use Rattle.der_cursor.specs.Formats.{Content, Field, Format, Required, OptionalTagged, Passed, ◌⨾◌, ◌⨟◌}
use Rattle.der_cursor.specs.Formats.{Only, End, Each, Octets, Constructed, Sequence}
use Rattle.der_cursor.specs.Formats.{Explicit, Limited, Number, BitString}
use Rattle.der_cursor.specs.Formats.{Text, GeneralizedTime}
use Rattle.messages.specs.declared.kerberos.name.Principal.{Principal}
use Rattle.messages.specs.declared.kerberos.request.Request.{Request}

-- KerberosString ::= GeneralString (IA5String); other texts in UTF-8 are read too            (5.2.1)
abbrev pub KerberosString : Format (List ℕ)
KerberosString = Text 27

-- Realm ::= KerberosString                                                                    (5.2.2)
abbrev pub Realm : Format (List ℕ)
Realm = KerberosString

-- KerberosTime ::= GeneralizedTime; fractions of a second are read too                        (5.2.3)
abbrev pub KerberosTime : Format ASN1DateTime
KerberosTime = GeneralizedTime

-- Int32 ::= INTEGER (-2147483648..2147483647)                                                 (5.2.4)
abbrev pub Int32 : Format ℤ
Int32 = Number (signed 32)

-- UInt32 ::= INTEGER (0..4294967295)
abbrev pub UInt32 : Format ℤ
UInt32 = Number (unsigned 32)

-- an INTEGER that is this number
abbrev pub Exactly : ℕ → Format ℤ
Exactly m = Limited (λ n. n ≡ pos m) UInt32

-- KDCOptions ::= KerberosFlags ::= BIT STRING (SIZE (32..MAX)); its size isn't asked          (5.2.8)
abbrev pub KdcOptions : Format (ℕ × List ℕ)
KdcOptions = BitString

-- SEQUENCE OF Int32
abbrev pub Kinds : Format (List ℤ)
Kinds = Sequence (Each (Required Int32))

abbrev pub Components : Format (List (List ℕ))
Components = Sequence (Each (Required KerberosString))

abbrev pub NameValue : Type 0
NameValue = Unit {0} × List (List ℕ)

-- PrincipalName ::= SEQUENCE {                                                                (5.2.2)
abbrev pub NameFields : Content NameValue
NameFields =
    Passed (Required (Explicit 0 (Required Int32)))  -- name-type    [0] Int32,
    ⨾ Only (Required (Explicit 1 (Required Components)))  -- name-string  [1] SEQUENCE OF KerberosString }

abbrev pub PrincipalName : Format NameValue
PrincipalName = Sequence NameFields

abbrev pub TimesValue : Type 0
TimesValue = Option ASN1DateTime × (ASN1DateTime × Option ASN1DateTime)

-- the times of KDC-REQ-BODY:                                                                  (5.4.1)
abbrev pub Times : Field TimesValue
Times =
    OptionalTagged 4 (Only (Required KerberosTime))  -- from   [4] KerberosTime OPTIONAL,
    ⨟ (Required (Explicit 5 (Required KerberosTime))  -- till   [5] KerberosTime,
    ⨟ OptionalTagged 6 (Only (Required KerberosTime)))  -- rtime  [6] KerberosTime OPTIONAL,

abbrev pub TicketValue : Type 0
TicketValue = Unit {0} × (Option NameValue × (List ℕ × (Option NameValue × (TimesValue × (Unit {0} × List ℤ)))))

-- the fields of KDC-REQ-BODY, to those that are passed over:                                  (5.4.1)
abbrev pub TicketFields : Field TicketValue
TicketFields =
    Passed (Required (Explicit 0 (Required KdcOptions)))  -- kdc-options  [0] KDCOptions,
    ⨟ (OptionalTagged 1 (Only (Required PrincipalName))  -- cname        [1] PrincipalName OPTIONAL,
    ⨟ (Required (Explicit 2 (Required Realm))  -- realm        [2] Realm,
    ⨟ (OptionalTagged 3 (Only (Required PrincipalName))  -- sname        [3] PrincipalName OPTIONAL,
    ⨟ (Times
    ⨟ (Passed (Required (Explicit 7 (Required UInt32)))  -- nonce        [7] UInt32,
    ⨟ Required (Explicit 8 (Required Kinds)))))))  -- etype        [8] SEQUENCE OF Int32,

abbrev pub PassedValue : Type 0
PassedValue = Unit {0} × (Unit {0} × (Unit {0} × Unit {0}))

-- and those, whose octets aren't looked into:
abbrev pub PassedFields : Content PassedValue
PassedFields =
    Passed (OptionalTagged 9 Octets)  -- addresses               [9] HostAddresses OPTIONAL,
    ⨾ (Passed (OptionalTagged 10 Octets)  -- enc-authorization-data  [10] EncryptedData OPTIONAL,
    ⨾ (Passed (OptionalTagged 11 Octets)  -- additional-tickets      [11] SEQUENCE OF Ticket OPTIONAL }
    ⨾ End))

abbrev pub BodyValue : Type 0
BodyValue = TicketValue × PassedValue

-- KDC-REQ-BODY ::= SEQUENCE { all of these }                                                  (5.4.1)
abbrev pub BodyFields : Content BodyValue
BodyFields = TicketFields ⨾ PassedFields

abbrev pub KdcReqBody : Format BodyValue
KdcReqBody = Sequence BodyFields

abbrev pub RequestValue : Type 0
RequestValue = ℤ × (ℤ × (Unit {0} × BodyValue))

-- KDC-REQ ::= SEQUENCE {                                                                      (5.4.1)
abbrev pub RequestFields : Content RequestValue
RequestFields =
    Required (Explicit 1 (Required (Exactly 5)))  -- pvno      [1] INTEGER (5),
    ⨾ (Required (Explicit 2 (Required (Exactly 10)))  -- msg-type  [2] INTEGER (10 -- AS --),
    ⨾ (Passed (OptionalTagged 3 Octets)  -- padata    [3] SEQUENCE OF PA-DATA OPTIONAL,
    ⨾ Only (Required (Explicit 4 (Required KdcReqBody)))))  -- req-body  [4] KDC-REQ-BODY }

abbrev pub KdcReq : Format RequestValue
KdcReq = Sequence RequestFields

-- AS-REQ ::= [APPLICATION 10] KDC-REQ                                                         (5.4.1)
abbrev pub AsReq : Format RequestValue
AsReq = Constructed Application 10 (Only (Required KdcReq))

-- What the structs stand for.

abbrev pub name_of : Principal → NameValue
name_of p = (tt, map (λ (t : Bor (List ℕ)). t.now) p.0.items)

abbrev pub ticket_of : Request → TicketValue
ticket_of x = (
  tt,
  (
    option_map name_of x.client,
    (
      x.realm.now,
      (
        option_map name_of x.server,
        ((x.from, (x.till, x.renewable_till)), (tt, x.encryption_kinds.items)),
      ),
    ),
  ),
)

abbrev pub body_of : Request → BodyValue
body_of x = (ticket_of x, (tt, (tt, (tt, tt))))

abbrev pub request_of : Request → RequestValue
request_of x = (pos 5, (pos 10, (tt, body_of x)))
