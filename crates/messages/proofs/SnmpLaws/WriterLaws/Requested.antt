-- A message encodes its value.
use Rattle.std.proofs.Common.{◌≡◌, ℕ, ◌^◌, ◌<◌, ◌≤◌, ◌⊎◌, ⊎_elim, ℤ, pos, List, ◌++◌, sym, ◌∙◌, arith, append_assoc, lit<}
use Rattle.std.specs.Prelude.{◌<ℤ◌}
use Rattle.std.proofs.lemmas.Int.{ints}
use Rattle.der_base.specs.declared.header.Class.TheVariants.{Universal, ContextSpecific}
use Rattle.der_base.specs.Numbers.{signed, least, greatest}
use Rattle.der_values.specs.Kinds.{identifiers, numbers, nulls, octet_strings}
use Rattle.der_writer.specs.Fields as put
use Rattle.der_writer.proofs.FormatsLaws.Encoded.{constructed_encodes, last_encodes, before_encodes, one_encodes, regrouped}
use Rattle.der_writer.proofs.FormatsLaws.Values.{signed_encodes, octets_encode, identifier_encodes, null_encodes}
use Rattle.der_cursor.specs.Formats.{Format, Required, OctetString, Null}
use Rattle.der_values.specs.Kinds.{EndsSubidentifier, HasPaddedArc}
use Rattle.der_writer.specs.Formats.Encodings.{Encodes, EncodesOnly, IsWrittenAs}
use Rattle.der_writer.proofs.FormatsLaws.Read.{constructed_written, primitive_written, then_written, end_written, each_written, encodes_only}
use Rattle.der_writer.proofs.FormatsLaws.ReadValues.{identifier_written, null_written, number_written, octets_written}
use Rattle.messages.specs.Snmp.Writer.Formats.{IsRequestId, Message, RequestsEncode, RequestsAreWritten, ResponsesEncode, ResponsesAreWritten, value_of}
use Rattle.messages.specs.Snmp.Writer.Octets.{binding, message}

-- a number of one digit fits
small_fits : (n : ℕ) → n ≤ 9 → ¬ ((pos n <ℤ least (signed 32)) ⊎ (greatest (signed 32) <ℤ pos n))
small_fits n h = λ k. ⊎_elim (λ low. absurd (omega (arith, ints, low))) (λ high. absurd (omega (arith, ints, high))) k

message_encodes : {V : Type 0} (operation : ℕ) (T : Format V) (v : V) (e : List ℕ) → operation < 2 ^ 32 → Encodes (Required T) v e
    → (community : List ℕ) (id : ℤ) (name : List ℕ) → IsRequestId id → EndsSubidentifier name → ¬ HasPaddedArc name
    → Encodes (Required (Message operation T)) (value_of community id name v) (message operation community id (binding name e))
message_encodes operation T v e small value community id name fits ends plain =
    let one = put.Integer (pos 1) in
    let zero = put.Integer (pos 0) in
    let own = put.Integer id in
    let octets = put.OctetString community in
    let list = put.Sequence (binding name e) in
    let pdu = put.Tagged operation (own ++ zero ++ zero ++ list) in
    let none = signed_encodes 32 (pos 0) (small_fits 0 (omega arith)) in
    let own_binding = constructed_encodes Universal 16 (lit< tt) (before_encodes (identifier_encodes name ends plain) (last_encodes value)) in
    let bindings = constructed_encodes Universal 16 (lit< tt) (one_encodes own_binding) in
    let fields = before_encodes (signed_encodes 32 id fits) (before_encodes none (before_encodes none (last_encodes bindings))) in
    let joined : own ++ (zero ++ (zero ++ list)) ≡ own ++ zero ++ zero ++ list =
    sym (append_assoc own zero (zero ++ list)) ∙ sym (append_assoc (own ++ zero) zero list) in
    let pdu_encodes = constructed_encodes ContextSpecific operation small (regrouped joined fields) in
    let version = signed_encodes 32 (pos 1) (small_fits 1 (omega arith)) in
    let all = before_encodes version (before_encodes (octets_encode community) (last_encodes pdu_encodes)) in
    constructed_encodes Universal 16 (lit< tt) (regrouped (sym (append_assoc one octets pdu)) all)

pub request_encodes : RequestsEncode
request_encodes = message_encodes 0 Null tt put.Null (lit< tt) null_encodes

pub response_encodes : ResponsesEncode
response_encodes community id name value = message_encodes 2 OctetString value (put.OctetString value) (lit< tt) (octets_encode value) community id name

-- What is read as a message.

message_only : {V : Type 0} (operation : ℕ) (T : Format V) {f : V → List ℕ} (v : V) (e : List ℕ) → IsWrittenAs (Required T) f
    → (community : List ℕ) (id : ℤ) (name : List ℕ) → Encodes (Required (Message operation T)) (value_of community id name v) (message operation community id (binding name e))
    → EncodesOnly (Required (Message operation T)) (value_of community id name v) (message operation community id (binding name e))
message_only operation T v e value community id name encodes =
    let number = primitive_written (λ r. numbers r (signed 32)) 2 (number_written (signed 32)) in
    let octets = primitive_written (λ r. octet_strings) 4 octets_written in
    let identifier = primitive_written (λ r. identifiers) 6 identifier_written in
    let bound = constructed_written Universal 16 (then_written identifier (then_written value end_written)) in
    let bindings = constructed_written Universal 16 (each_written bound) in
    let fields = then_written number (then_written number (then_written number (then_written bindings end_written))) in
    let pdu = constructed_written ContextSpecific operation fields in
    encodes_only (constructed_written Universal 16 (then_written number (then_written octets (then_written pdu end_written)))) encodes

pub requests_only : RequestsAreWritten
requests_only community id name fits ends plain =
    message_only 0 Null tt put.Null (primitive_written nulls 5 null_written) community id name (request_encodes community id name fits ends plain)

pub responses_only : ResponsesAreWritten
responses_only community id name value fits ends plain =
    message_only 2 OctetString value (put.OctetString value) (primitive_written (λ r. octet_strings) 4 octets_written) community id name (response_encodes community id name value fits ends plain)
