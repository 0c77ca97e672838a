-- The octets of messages, beside their ASN.1.
use Rattle.std.specs.Prelude.{ℤ, pos, List, ℕ, ◌++◌}
use Rattle.der_writer.specs.Fields.{Integer, OctetString, ObjectIdentifier, Null, Sequence, Tagged}

-- VarBind ::= SEQUENCE { name ObjectName, value ObjectSyntax }                 (RFC 3416 3)
abbrev pub binding : List ℕ → List ℕ → List ℕ
binding name value = Sequence (ObjectIdentifier name ++ value)

-- Message ::= SEQUENCE { version INTEGER, community OCTET STRING, data PDUs }  (RFC 1901 3, RFC 3416 3)
abbrev pub message : ℕ → List ℕ → ℤ → List ℕ → List ℕ
message operation community request_id bindings = Sequence (
    Integer (pos 1)  -- version    INTEGER { version(1) },
    ++ OctetString community  -- community  OCTET STRING,
    ++ Tagged operation ( -- PDU ::= [operation] IMPLICIT SEQUENCE {
    Integer request_id  -- request-id         INTEGER,
    ++ Integer (pos 0)  -- error-status       INTEGER,
    ++ Integer (pos 0)  -- error-index        INTEGER,
    ++ Sequence bindings))  -- variable-bindings  VarBindList }

abbrev pub get_request : List ℕ → ℤ → List ℕ → List ℕ
get_request community request_id name = message 0 community request_id (binding name Null)

abbrev pub response : List ℕ → ℤ → List ℕ → List ℕ → List ℕ
response community request_id name value = message 2 community request_id (binding name (OctetString value))
