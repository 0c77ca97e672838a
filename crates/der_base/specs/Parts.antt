-- The parts of contents that accessors return. A content without the part is refused as of the wrong type.
use Rattle.std.specs.Prelude.{◌≡◌, ℕ, Bool, List, Option, Some, None, Result, Ok, Err, if◌then◌else◌}
use Rattle.der_base.specs.declared.error.Err.{Err as Refused}
use Rattle.der_base.specs.declared.error.Error.{Error as BerError}
use Rattle.der_base.specs.declared.header.Class.{Class}
use Rattle.der_base.specs.Answer.{AnswersOkOr, AnswersError}
use Rattle.der_base.specs.Refusal.{refusal, wrong_type}
use Rattle.der_base.specs.Text.{is_text_type}
use Rattle.der_base.specs.Tree.{Node, Content, boolean, integer, bit_string, string, object_identifier, relative_oid}
use Rattle.der_base.specs.Tree.{sequence, set, absent, present, tagged, unknown, Nodes}

-- the value of a BOOLEAN (X.690 8.2)
abbrev pub boolean_part : Content → Option Bool
boolean_part (boolean b) = Some b
boolean_part _ = None

-- of an OBJECT IDENTIFIER or a RELATIVE-OID, whether it is relative, and its octets (8.19, 8.20)
abbrev pub identifier_part : Content → Option (Bool × List ℕ)
identifier_part (object_identifier r w) = Some (r, w)
identifier_part (relative_oid r w) = Some (r, w)
identifier_part _ = None

-- the octets of a BIT STRING, the unused bits too (8.6)
abbrev pub bits_part : Content → Option (List ℕ)
bits_part (bit_string u w) = Some w
bits_part _ = None

-- the octets of a character string that is kept as a text, which are UTF-8 (8.23, 8.25)
abbrev pub text_part : Content → Option (List ℕ)
text_part (string k w) = if is_text_type k then Some w else None
text_part _ = None

-- The octets of a string of any type, of an INTEGER, of a BIT STRING and of an unknown content. An identifier has none:
-- its own calls give them.
abbrev pub octets_part : Content → Option (List ℕ)
octets_part (string k w) = Some w
octets_part (integer w) = Some w
octets_part (bit_string u w) = Some w
octets_part (unknown c p t w) = Some w
octets_part _ = None

-- the items of a SEQUENCE (8.9)
abbrev pub sequence_part : Content → Option Nodes
sequence_part (sequence l) = Some l
sequence_part _ = None

-- the items of a SET (8.11)
abbrev pub set_part : Content → Option Nodes
set_part (set l) = Some l
set_part _ = None

-- of an object that may be absent, the object where it is there
abbrev pub optional_part : Content → Option (Option Node)
optional_part absent = Some None
optional_part (present o) = Some (Some o)
optional_part _ = None

-- of a tagged object, the class and the number of the tag, and the object inside (8.14)
abbrev pub tagged_part : Content → Option (Class × ℕ × Node)
tagged_part (tagged c t o) = Some (c, t, o)
tagged_part _ = None

-- the result of an accessor, seen by `view`: Ok of the part, or the refusal where there is none
abbrev pub AnswersPart : {T V : Type 0} → (T → V) → Option V → Result T BerError → Type 0
AnswersPart view (Some v) (Ok x) = view x ≡ v
AnswersPart view (Some v) (Err e) = ⊥
AnswersPart view None (Ok x) = ⊥
AnswersPart view None (Err e) = refusal e ≡ wrong_type

-- the same of one that may find no memory for the part, where M holds
abbrev pub AnswersPartOr : {T V : Type 0} → Type 0 → (T → V) → Option V → Result T (Refused BerError) → Type 0
AnswersPartOr M view (Some v) result = AnswersOkOr M result (λ x. view x ≡ v)
AnswersPartOr M view None result = AnswersError result wrong_type
