-- The octets of a search, beside its ASN.1 (RFC 4511 4.1.1, 4.5.1).
use Rattle.std.specs.Prelude.{ℕ, pos, List, ◌++◌}
use Rattle.std.specs.List.{flat_map}
use Rattle.der_base.specs.declared.header.Class.TheVariants.{Application, ContextSpecific}
use Rattle.der_writer.specs.Fields.{primitive, constructed, Boolean, Integer, Enumerated, OctetString, Sequence, Tagged}
use Rattle.messages.specs.declared.ldap.writer.search.DerefAliases.{DerefAliases}
use Rattle.messages.specs.declared.ldap.writer.search.DerefAliases.TheVariants.{Never, InSearching, FindingBaseObject, Always}
use Rattle.messages.specs.declared.ldap.writer.search.Filter.{Filter}
use Rattle.messages.specs.declared.ldap.writer.search.Filter.TheVariants.{Present, EqualityMatch}
use Rattle.messages.specs.declared.ldap.writer.search.Scope.{Scope}
use Rattle.messages.specs.declared.ldap.writer.search.Scope.TheVariants.{BaseObject, SingleLevel, WholeSubtree}
use Rattle.messages.specs.declared.ldap.writer.search.Search.{Search}

abbrev pub scope_number : Scope → ℕ
scope_number BaseObject = 0
scope_number SingleLevel = 1
scope_number WholeSubtree = 2

abbrev pub deref_number : DerefAliases → ℕ
deref_number Never = 0
deref_number InSearching = 1
deref_number FindingBaseObject = 2
deref_number Always = 3

-- equalityMatch [3] AttributeValueAssertion, where tags are implicit
-- AttributeValueAssertion ::= SEQUENCE {                                (4.1.6)
abbrev pub equality_octets : List ℕ → List ℕ → List ℕ
equality_octets attribute value = Tagged 3 (
    OctetString attribute  -- attributeDesc   AttributeDescription,
    ++ OctetString value)  -- assertionValue  AssertionValue }

-- Filter ::= CHOICE { equalityMatch [3] .., present [7] AttributeDescription, .. }
abbrev pub filter_octets : Filter → List ℕ
filter_octets (Present attribute) = primitive ContextSpecific 7 attribute.now
filter_octets (EqualityMatch attribute value) = equality_octets attribute.now value.now

-- LDAPMessage ::= SEQUENCE {
abbrev pub search_octets : ℕ → Search → List ℕ
search_octets message_id s = Sequence (
    Integer (pos message_id)  -- messageID     MessageID,
    ++ constructed Application 3 ( -- protocolOp    [APPLICATION 3] SEQUENCE {
    OctetString s.base_object.now  -- baseObject    LDAPDN,
    ++ Enumerated (scope_number s.scope)  -- scope         ENUMERATED,
    ++ Enumerated (deref_number s.deref_aliases)  -- derefAliases  ENUMERATED,
    ++ Integer (pos s.size_limit)  -- sizeLimit     INTEGER (0 .. maxInt),
    ++ Integer (pos s.time_limit)  -- timeLimit     INTEGER (0 .. maxInt),
    ++ Boolean s.types_only  -- typesOnly     BOOLEAN,
    ++ filter_octets s.filter  -- filter        Filter,
    ++ Sequence (flat_map (λ a. OctetString a.now) s.attributes.now)))  -- attributes    AttributeSelection }, .. }
