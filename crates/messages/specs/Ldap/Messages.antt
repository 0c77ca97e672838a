-- Messages, as their ASN.1 has them (RFC 4511), and what the structs of the code stand for. They are read by BER, and
-- the limits that the RFC sets to lengths and to TRUE (5.1) aren't asked. An INTEGER is read up to 2^32-1, lists may be
-- empty, texts are whatever their octets are, and elements after the last field of a SEQUENCE are passed over (4).
use Rattle.std.specs.Borrow.{Bor}
use Rattle.std.specs.Prelude.{ℕ, ℤ, pos, Bool, true, false, Option, List, map}
use Rattle.std.specs.Option.{option_map}
use Rattle.der_base.specs.declared.header.Class.TheVariants.{Application}
use Rattle.der_base.specs.Numbers.{unsigned}
use Rattle.der_cursor.specs.Formats.{As, Boolean, Choice, Content, Each, Enumerated, Field, Format, Ignored}
use Rattle.der_cursor.specs.Formats.{Null, Number, OctetString, Optional, OptionalTagged, Others, Passed, Required}
use Rattle.der_cursor.specs.Formats.{Sequence, Set, ◌⨾◌}
use Rattle.messages.specs.declared.ldap.message.Attribute.{Attribute as AttributeStruct}
use Rattle.messages.specs.declared.ldap.message.Change.{Change as ChangeStruct}
use Rattle.messages.specs.declared.ldap.message.Content.{Content as ContentStruct}
use Rattle.messages.specs.declared.ldap.message.Content.TheVariants.{Nothing, Name, Rename, Search, Entry, Modification}
use Rattle.messages.specs.declared.ldap.message.Content.TheVariants.{Comparison, References}
use Rattle.messages.specs.declared.ldap.message.Content.TheVariants.{Result as Outcome}
use Rattle.messages.specs.declared.ldap.message.Control.{Control as ControlStruct}
use Rattle.messages.specs.declared.ldap.message.Message.{Message as MessageStruct}
use Rattle.messages.specs.declared.ldap.message.Operation.{Operation}
use Rattle.messages.specs.declared.ldap.message.Operation.TheVariants.{AbandonRequest, AddRequest, BindRequest}
use Rattle.messages.specs.declared.ldap.message.Operation.TheVariants.{CompareRequest}
use Rattle.messages.specs.declared.ldap.message.Operation.TheVariants.{DelRequest, ExtendedRequest, IntermediateResponse}
use Rattle.messages.specs.declared.ldap.message.Operation.TheVariants.{ModifyDNRequest, ModifyRequest, SearchRequest}
use Rattle.messages.specs.declared.ldap.message.Operation.TheVariants.{SearchResultEntry, SearchResultReference}
use Rattle.messages.specs.declared.ldap.message.Operation.TheVariants.{UnbindRequest}
use Rattle.messages.specs.declared.ldap.message.Search.{Search as SearchStruct}
use Rattle.messages.specs.Ldap.Filters.{FilterField, Part, filter_of, option_now}
use Rattle.messages.specs.Ldap.Operations.{number_of}
use Rattle.messages.specs.Ldap.Words.{AnyChoice}

-- a type, and its values
abbrev pub AttributeValue : Type 0
AttributeValue = List ℕ × List (List ℕ)

-- the fields of a search, in their order
abbrev pub SearchValue : Type 0
SearchValue = List ℕ × (ℕ × (ℕ × (ℤ × (ℤ × (Bool × (List Part × (List (List ℕ) × Unit {0})))))))

-- the identifier of a control, its criticality and its value
abbrev pub ControlValue : Type 0
ControlValue = List ℕ × (Option Bool × (Option (List ℕ) × Unit {0}))

-- the names, texts and values of an operation
pub data Parts : Type 0 where
  nothing : Parts
  name : List ℕ → Parts
  rename : List ℕ → List ℕ → Parts
  search : SearchValue → Parts
  entry : List ℕ → List AttributeValue → Parts
  modification : List ℕ → List (ℕ × AttributeValue) → Parts
  comparison : List ℕ → List ℕ → List ℕ → Parts
  references : List (List ℕ) → Parts
  outcome : ℕ → List ℕ → List ℕ → Option (List (List ℕ)) → Parts

abbrev pub Natural : Format ℤ
Natural = Number (unsigned 32)

-- LDAPString, LDAPDN, RelativeLDAPDN, URI, AttributeDescription, AttributeValue ::= OCTET STRING   (4.1)
abbrev pub Texts : Content (List (List ℕ))
Texts = Each (Required OctetString)

-- PartialAttribute ::= SEQUENCE {                                             (4.1.7)
abbrev pub Attribute : Format AttributeValue
Attribute = Sequence (As (λ v. (v.0, v.1.0)) (
    Required OctetString  -- type       AttributeDescription,
    ⨾ (Required (Set Texts)  -- vals       SET OF value AttributeValue }
    ⨾ Others)))

-- SEQUENCE {                                                                  (4.6)
abbrev pub Change : Format (ℕ × AttributeValue)
Change = Sequence (As (λ v. (v.0, v.1.0)) (
    Required Enumerated  -- operation       ENUMERATED,
    ⨾ (Required Attribute  -- modification    PartialAttribute }
    ⨾ Others)))

-- LDAPResult ::= SEQUENCE {                                                   (4.1.9)
abbrev pub ResultContent : Content Parts
ResultContent = As (λ v. outcome v.0 v.1.0 v.1.1.0 v.1.1.1.0) (
    Required Enumerated  -- resultCode         ENUMERATED,
    ⨾ (Required OctetString  -- matchedDN          LDAPDN,
    ⨾ (Required OctetString  -- diagnosticMessage  LDAPString,
    ⨾ (OptionalTagged 3 Texts  -- referral           [3] SEQUENCE OF uri URI OPTIONAL, .. }
    ⨾ Others))))

-- BindRequest ::= [APPLICATION 0] SEQUENCE {                                  (4.2)
abbrev pub BindContent : Content Parts
BindContent = As (λ v. name v.1.0) (
    Passed (Required Natural)  -- version         INTEGER,
    ⨾ (Required OctetString  -- name            LDAPDN,
    ⨾ (AnyChoice  -- authentication  AuthenticationChoice }
    ⨾ Others)))

-- SearchRequest ::= [APPLICATION 3] SEQUENCE {                                (4.5.1)
abbrev pub SearchContent : Content Parts
SearchContent = As (λ v. search v) (
    Required OctetString  -- baseObject    LDAPDN,
    ⨾ (Required Enumerated  -- scope         ENUMERATED,
    ⨾ (Required Enumerated  -- derefAliases  ENUMERATED,
    ⨾ (Required Natural  -- sizeLimit     INTEGER,
    ⨾ (Required Natural  -- timeLimit     INTEGER,
    ⨾ (Required Boolean  -- typesOnly     BOOLEAN,
    ⨾ (FilterField 32  -- filter        Filter,
    ⨾ (Required (Sequence Texts)  -- attributes    SEQUENCE OF selector LDAPString }
    ⨾ Others))))))))

-- SearchResultEntry ::= [APPLICATION 4] SEQUENCE {                            (4.5.2)
-- AddRequest ::= [APPLICATION 8] SEQUENCE {                                   (4.7)
abbrev pub EntryContent : Content Parts
EntryContent = As (λ v. entry v.0 v.1.0) (
    Required OctetString  -- objectName    LDAPDN,
    ⨾ (Required (Sequence (Each (Required Attribute)))  -- attributes    SEQUENCE OF PartialAttribute }
    ⨾ Others))

-- SearchResultReference ::= [APPLICATION 19] SEQUENCE OF uri URI              (4.5.2)
abbrev pub ReferenceContent : Content Parts
ReferenceContent = As (λ v. references v) Texts

-- ModifyRequest ::= [APPLICATION 6] SEQUENCE {                                (4.6)
abbrev pub ModifyContent : Content Parts
ModifyContent = As (λ v. modification v.0 v.1.0) (
    Required OctetString  -- object     LDAPDN,
    ⨾ (Required (Sequence (Each (Required Change)))  -- changes    SEQUENCE OF change SEQUENCE }
    ⨾ Others))

-- ModifyDNRequest ::= [APPLICATION 12] SEQUENCE {                             (4.9)
abbrev pub RenameContent : Content Parts
RenameContent = As (λ v. rename v.0 v.1.0) (
    Required OctetString  -- entry      LDAPDN,
    ⨾ (Required OctetString  -- newrdn     RelativeLDAPDN, .. }
    ⨾ Others))

-- AttributeValueAssertion ::= SEQUENCE {                                      (4.1.6)
abbrev pub Assertion : Format (List ℕ × (List ℕ × Unit {0}))
Assertion = Sequence (
    Required OctetString  -- attributeDesc   AttributeDescription,
    ⨾ (Required OctetString  -- assertionValue  AssertionValue }
    ⨾ Ignored))

-- CompareRequest ::= [APPLICATION 14] SEQUENCE {                              (4.10)
abbrev pub CompareContent : Content Parts
CompareContent = As (λ v. comparison v.0 v.1.0.0 v.1.0.1.0) (
    Required OctetString  -- entry      LDAPDN,
    ⨾ (Required Assertion  -- ava        AttributeValueAssertion }
    ⨾ Others))

-- the content of each operation that is a SEQUENCE. The fields of ExtendedRequest (4.12) and IntermediateResponse
-- (4.13) are passed over.
abbrev pub list_content : Operation → Content Parts
list_content BindRequest = BindContent
list_content SearchRequest = SearchContent
list_content SearchResultEntry = EntryContent
list_content AddRequest = EntryContent
list_content ModifyRequest = ModifyContent
list_content ModifyDNRequest = RenameContent
list_content CompareRequest = CompareContent
list_content SearchResultReference = ReferenceContent
list_content ExtendedRequest = As (λ v. nothing) Others
list_content IntermediateResponse = As (λ v. nothing) Others
list_content o = ResultContent

-- UnbindRequest ::= [APPLICATION 2] NULL                                     (4.3)
-- DelRequest ::= [APPLICATION 10] LDAPDN                                      (4.8)
-- AbandonRequest ::= [APPLICATION 16] MessageID                               (4.11)
abbrev pub operation_content : Operation → Content Parts
operation_content UnbindRequest = As (λ v. nothing) Null.content
operation_content DelRequest = As (λ v. name v) OctetString.content
operation_content AbandonRequest = As (λ v. nothing) Natural.content
operation_content o = list_content o

abbrev pub is_list : Operation → Bool
is_list UnbindRequest = false
is_list DelRequest = false
is_list AbandonRequest = false
is_list o = true

-- [APPLICATION n] IMPLICIT, with the number of the operation                  (4.1.1)
abbrev pub ProtocolOp : Operation → Format Parts
ProtocolOp o = record {
  class = Application;
  number = number_of o;
  constructed = is_list o;
  content = operation_content o;
}

abbrev pub OperationValue : Type 0
OperationValue = Operation × Parts

abbrev pub AnyOperation : Field OperationValue
AnyOperation = Choice ProtocolOp

-- Control ::= SEQUENCE {                                                      (4.1.11)
abbrev pub Control : Format ControlValue
Control = Sequence (
    Required OctetString  -- controlType   LDAPOID,
    ⨾ (Optional Boolean  -- criticality   BOOLEAN DEFAULT FALSE,
    ⨾ (Optional OctetString  -- controlValue  OCTET STRING OPTIONAL }
    ⨾ Others)))

abbrev pub MessageValue : Type 0
MessageValue = ℤ × (OperationValue × (Option (List ControlValue) × Unit {0}))

-- LDAPMessage ::= SEQUENCE {                                                  (4.1.1)
abbrev pub MessageContent : Content MessageValue
MessageContent =
    Required Natural  -- messageID   MessageID,
    ⨾ (AnyOperation  -- protocolOp  CHOICE { .. },
    ⨾ (OptionalTagged 0 (Each (Required Control))  -- controls    [0] SEQUENCE OF control Control OPTIONAL }
    ⨾ Others))

abbrev pub Message : Format MessageValue
Message = Sequence MessageContent

-- What the structs stand for.

abbrev pub texts_of : List (Bor (List ℕ)) → List (List ℕ)
texts_of v = map (λ x. x.now) v

abbrev pub attribute_of : AttributeStruct → AttributeValue
attribute_of x = (x.name.now, texts_of x.values.items)

abbrev pub attributes_of : List AttributeStruct → List AttributeValue
attributes_of v = map attribute_of v

abbrev pub change_of : ChangeStruct → ℕ × AttributeValue
change_of x = (x.operation, attribute_of x.attribute)

abbrev pub changes_of : List ChangeStruct → List (ℕ × AttributeValue)
changes_of v = map change_of v

abbrev pub search_of : SearchStruct → SearchValue
search_of x = (
  x.base.now,
  (
    x.scope,
    (
      x.aliases,
      (
        pos x.size_limit,
        (
          pos x.time_limit,
          (
            x.types_only,
            (filter_of x.filter.items, (texts_of x.attributes.items, tt)),
          ),
        ),
      ),
    ),
  ),
)

abbrev pub control_of : ControlStruct → ControlValue
control_of x = (x.kind.now, (x.criticality, (option_now x.value, tt)))

abbrev pub controls_of : List ControlStruct → List ControlValue
controls_of v = map control_of v

abbrev pub parts_of : ContentStruct → Parts
parts_of Nothing = nothing
parts_of (Name x) = name x.now
parts_of (Rename x y) = rename x.now y.now
parts_of (Search s) = search (search_of s)
parts_of (Entry x v) = entry x.now (attributes_of v.items)
parts_of (Modification x v) = modification x.now (changes_of v.items)
parts_of (Comparison x y z) = comparison x.now y.now z.now
parts_of (References v) = references (texts_of v.items)
parts_of (Outcome n x y v) = outcome n x.now y.now (option_map (λ t. texts_of t.items) v)

abbrev pub message_of : MessageStruct → MessageValue
message_of m = (
  pos m.id,
  (
    (m.operation, parts_of m.content),
    (option_map (λ v. controls_of v.items) m.controls, tt),
  ),
)
