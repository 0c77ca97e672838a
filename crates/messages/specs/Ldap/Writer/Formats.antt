-- A search as a format of der_cursor (RFC 4511 4.1.1, 4.5.1), and the value of what is written.
use Rattle.std.specs.Prelude.{ℕ, ◌^◌, ◌<◌, ℤ, pos, Bool, List, map}
use Rattle.der_base.specs.declared.header.Class.TheVariants.{Application}
use Rattle.der_base.specs.Numbers.{unsigned}
use Rattle.der_cursor.specs.Formats.{Field, Format, Required, ◌⨾◌, End, Each, Constructed, Sequence, Implicit, Boolean}
use Rattle.der_cursor.specs.Formats.{Number, Enumerated, OctetString}
use Rattle.der_writer.specs.Formats.Encodings.{Encodes, EncodesOnly}
use Rattle.messages.specs.declared.ldap.writer.search.Filter.{Filter}
use Rattle.messages.specs.declared.ldap.writer.search.Filter.TheVariants.{Present, EqualityMatch}
use Rattle.messages.specs.declared.ldap.writer.search.Search.{Search}
use Rattle.messages.specs.Ldap.Writer.Octets.{scope_number, deref_number, search_octets}

-- INTEGER (0 .. maxInt), where maxInt is 2^31-1                         (4.1.1)
abbrev pub Limit : Format ℤ
Limit = Number (unsigned 31)

abbrev pub AssertionValue : Type 0
AssertionValue = List ℕ × (List ℕ × Unit {0})

-- AttributeValueAssertion ::= SEQUENCE {                                (4.1.6)
abbrev pub Assertion : Format AssertionValue
Assertion = Sequence (
    Required OctetString  -- attributeDesc   AttributeDescription,
    ⨾ (Required OctetString  -- assertionValue  AssertionValue }
    ⨾ End))

pub data FilterValue : Type 0 where
  equality_match : AssertionValue → FilterValue
  present : List ℕ → FilterValue

-- Filter ::= CHOICE {                                                   (4.5.1)
unfoldable pub AnyFilter : Field FilterValue
-- equalityMatch [3] AttributeValueAssertion,
AnyFilter r i (equality_match v) rest = Required (Implicit 3 Assertion) r i v rest
-- present       [7] AttributeDescription, .. }
AnyFilter r i (present v) rest = Required (Implicit 7 OctetString) r i v rest

abbrev pub RequestValue : Type 0
RequestValue = List ℕ × (ℕ × (ℕ × (ℤ × (ℤ × (Bool × (FilterValue × (List (List ℕ) × Unit {0})))))))

-- SearchRequest ::= [APPLICATION 3] SEQUENCE {                          (4.5.1)
abbrev pub SearchRequest : Format RequestValue
SearchRequest = Constructed Application 3 (
    Required OctetString  -- baseObject    LDAPDN,
    ⨾ (Required Enumerated  -- scope         ENUMERATED,
    ⨾ (Required Enumerated  -- derefAliases  ENUMERATED,
    ⨾ (Required Limit  -- sizeLimit     INTEGER (0 .. maxInt),
    ⨾ (Required Limit  -- timeLimit     INTEGER (0 .. maxInt),
    ⨾ (Required Boolean  -- typesOnly     BOOLEAN,
    ⨾ (AnyFilter  -- filter        Filter,
    ⨾ (Required (Sequence (Each (Required OctetString)))  -- attributes    SEQUENCE OF selector LDAPString }
    ⨾ End))))))))

abbrev pub MessageValue : Type 0
MessageValue = ℤ × (RequestValue × Unit {0})

-- LDAPMessage ::= SEQUENCE {                                            (4.1.1)
abbrev pub Message : Format MessageValue
Message = Sequence (
    Required Limit  -- messageID   MessageID,
    ⨾ (Required SearchRequest  -- protocolOp  CHOICE { .. },
    ⨾ End))  -- controls    [0] Controls OPTIONAL }

-- What the structs stand for.

abbrev pub filter_of : Filter → FilterValue
filter_of (Present a) = present a.now
filter_of (EqualityMatch a v) = equality_match (a.now, (v.now, tt))

abbrev pub request_of : Search → RequestValue
request_of s = (
  s.base_object.now,
  (
    scope_number s.scope,
    (
      deref_number s.deref_aliases,
      (
        pos s.size_limit,
        (
          pos s.time_limit,
          (s.types_only, (filter_of s.filter, (map (λ a. a.now) s.attributes.now, tt))),
        ),
      ),
    ),
  ),
)

-- the numbers are at most maxInt
pub record AreWithinLimits (id : ℕ) (s : Search) : Type 0 where
  pub message_id : id < 2 ^ 31
  pub size_limit : s.size_limit < 2 ^ 31
  pub time_limit : s.time_limit < 2 ^ 31

-- what is written is read with the values that were put
abbrev pub SearchesEncode : Type 0
SearchesEncode = (message_id : ℕ) (s : Search) → AreWithinLimits message_id s
    → Encodes (Required Message) (pos message_id, (request_of s, tt)) (search_octets message_id s)

-- what is read with these values is what is written
abbrev pub SearchesAreWritten : Type 0
SearchesAreWritten = (message_id : ℕ) (s : Search) → AreWithinLimits message_id s
    → EncodesOnly (Required Message) (pos message_id, (request_of s, tt)) (search_octets message_id s)
