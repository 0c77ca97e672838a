-- Messages for one object as formats of der_cursor (RFC 1901 3, RFC 3416 3), by the format of its value.
use Rattle.std.specs.Prelude.{ℕ, ℤ, pos, ◌<ℤ◌, ◌⊎◌, List, [], ◌∷◌}
use Rattle.der_base.specs.declared.header.Class.TheVariants.{ContextSpecific}
use Rattle.der_base.specs.Numbers.{signed, least, greatest}
use Rattle.der_cursor.specs.Formats.{Format, Required, ◌⨾◌, End, Each, Constructed, Sequence, Number}
use Rattle.der_cursor.specs.Formats.{OctetString, ObjectIdentifier, Null}
use Rattle.der_values.specs.Kinds.{EndsSubidentifier, HasPaddedArc}
use Rattle.der_writer.specs.Formats.Encodings.{Encodes, EncodesOnly}
use Rattle.messages.specs.Snmp.Writer.Octets.{get_request, response}

abbrev pub BindingValue : Type 0 → Type 0
BindingValue V = List ℕ × (V × Unit {0})

abbrev pub Binding : {V : Type 0} → Format V → Format (BindingValue V)
Binding T = Sequence (Required ObjectIdentifier ⨾ (Required T ⨾ End))

abbrev pub PduValue : Type 0 → Type 0
PduValue V = ℤ × (ℤ × (ℤ × (List (BindingValue V) × Unit {0})))

abbrev pub Pdu : {V : Type 0} → ℕ → Format V → Format (PduValue V)
Pdu operation T = Constructed ContextSpecific operation (
    Required (Number (signed 32))  -- request-id         INTEGER,
    ⨾ (Required (Number (signed 32))  -- error-status       INTEGER,
    ⨾ (Required (Number (signed 32))  -- error-index        INTEGER,
    ⨾ (Required (Sequence (Each (Required (Binding T))))  -- variable-bindings  VarBindList }
    ⨾ End))))

abbrev pub MessageValue : Type 0 → Type 0
MessageValue V = ℤ × (List ℕ × (PduValue V × Unit {0}))

abbrev pub Message : {V : Type 0} → ℕ → Format V → Format (MessageValue V)
Message operation T = Sequence (
    Required (Number (signed 32))  -- version    INTEGER { version(1) },
    ⨾ (Required OctetString  -- community  OCTET STRING,
    ⨾ (Required (Pdu operation T)  -- data       PDUs }
    ⨾ End)))

-- the value of a message for one object
abbrev pub value_of : {V : Type 0} → List ℕ → ℤ → List ℕ → V → MessageValue V
value_of community request_id name v =
    (pos 1, (community, ((request_id, (pos 0, (pos 0, (((name, (v, tt)) ∷ []), tt)))), tt)))

abbrev pub IsRequestId : ℤ → Type 0
IsRequestId n = ¬ ((n <ℤ least (signed 32)) ⊎ (greatest (signed 32) <ℤ n))

-- what is written is read back with the values that were put
abbrev pub RequestsEncode : Type 0
RequestsEncode = (community : List ℕ) (request_id : ℤ) (name : List ℕ)
    → IsRequestId request_id → EndsSubidentifier name → ¬ HasPaddedArc name
    → Encodes (Required (Message 0 Null)) (value_of community request_id name tt)
    (get_request community request_id name)

abbrev pub ResponsesEncode : Type 0
ResponsesEncode = (community : List ℕ) (request_id : ℤ) (name value : List ℕ)
    → IsRequestId request_id → EndsSubidentifier name → ¬ HasPaddedArc name
    → Encodes (Required (Message 2 OctetString)) (value_of community request_id name value)
    (response community request_id name value)

-- what is read with these values is what is written
abbrev pub RequestsAreWritten : Type 0
RequestsAreWritten = (community : List ℕ) (request_id : ℤ) (name : List ℕ)
    → IsRequestId request_id → EndsSubidentifier name → ¬ HasPaddedArc name
    → EncodesOnly (Required (Message 0 Null)) (value_of community request_id name tt)
    (get_request community request_id name)

abbrev pub ResponsesAreWritten : Type 0
ResponsesAreWritten = (community : List ℕ) (request_id : ℤ) (name value : List ℕ)
    → IsRequestId request_id → EndsSubidentifier name → ¬ HasPaddedArc name
    → EncodesOnly (Required (Message 2 OctetString)) (value_of community request_id name value)
    (response community request_id name value)
