-- What RFC 5280 asks of general names (4.2.1.6).
use Rattle.std.specs.Prelude.{◌≡◌, ◌≢◌, ℕ, ◌||◌, ◌==◌, nat_le, Bool, false, IsTrue, IsUtf8, Option, Some, None, List}
use Rattle.std.specs.Prelude.{[], ◌∷◌, ◌++◌, length, ◌⊎◌}
use Rattle.std.specs.Char.{is_ascii_alphabetic, is_ascii_alphanumeric}
use Rattle.std.specs.List.{list_any}
use Rattle.der_base.specs.declared.header.Class.TheVariants.{Universal}
use Rattle.der_cursor.specs.Elements.{Element}
use Rattle.der_extensions.specs.GeneralNames.{GeneralName, NameValue, other_name, rfc822_name, dns_name, x400_address}
use Rattle.der_extensions.specs.GeneralNames.{directory_name, edi_party_name, ip_address, registered_id}
use Rattle.der_extensions.specs.GeneralNames.{uniform_resource_identifier}
use Rattle.x509.specs.Rules.{HasDescent}
use Rattle.x509_value_rules.specs.declared.names.NameRule.{NameRule}
use Rattle.x509_rule_facts.specs.declared.mailbox.LocalCharacters.TheVariants.{Ascii, Utf8}
use Rattle.x509_value_rules.specs.declared.names.NameRule.TheVariants.{NotEmpty, AddressOctets, NotBlank, Scheme, Host}
use Rattle.x509_value_rules.specs.declared.names.NameRule.TheVariants.{Mailbox, InternationalMailbox, OrderedAttributes}
use Rattle.x509_value_rules.specs.declared.names.NameRule.TheVariants.{LdapAttribute, LdapEntry, PreferredName}
use Rattle.x509_value_rules.specs.declared.names.NameRule.TheVariants.{PartyName, TypedAttributes}
use Rattle.x509_rule_facts.specs.Attributes.{HasMistyped}
use Rattle.x509_value_rules.specs.Directories.{HasSeveralAttributes, IsOddEntry}
use Rattle.x509_rule_facts.specs.HostNames.{IsPreferredName}
use Rattle.x509_rule_facts.specs.Lists.{Among}
use Rattle.x509_rule_facts.specs.Mailboxes.{IsMailbox}
use Rattle.x509_rule_facts.specs.Uris.{HasNoHost}
use Rattle.x509_value_rules.specs.Parties.{IsNoParty}

-- a text, an address or a distinguished name of no octets
abbrev pub IsEmptyName : NameValue → Type 0
IsEmptyName (rfc822_name w) = w ≡ []
IsEmptyName (dns_name w) = w ≡ []
IsEmptyName (uniform_resource_identifier w) = w ≡ []
IsEmptyName (ip_address w) = w ≡ []
IsEmptyName (directory_name w) = w ≡ []
IsEmptyName (other_name n) = ⊥
IsEmptyName (x400_address w) = ⊥
IsEmptyName (edi_party_name w) = ⊥
IsEmptyName (registered_id w) = ⊥

-- an address of neither IPv4 nor IPv6
abbrev pub IsOddAddress : NameValue → Type 0
IsOddAddress (ip_address w) = (length w ≢ 4) × (length w ≢ 16)
IsOddAddress _ = ⊥

-- a dNSName of one space
abbrev pub IsBlankName : NameValue → Type 0
IsBlankName (dns_name w) = w ≡ 32 ∷ []
IsBlankName _ = ⊥

-- scheme = ALPHA *( ALPHA / DIGIT / "+" / "-" / "." )                  (RFC 3986 3.1)
abbrev pub is_scheme_character : ℕ → Bool
is_scheme_character b = is_ascii_alphanumeric b || (b == 43) || (b == 45) || (b == 46)

abbrev pub AreSchemeCharacters : List ℕ → Type 0
AreSchemeCharacters [] = Unit {0}
AreSchemeCharacters (b ∷ s) = IsTrue (is_scheme_character b) × AreSchemeCharacters s

-- characters of a scheme, ":" and something behind it
abbrev pub SchemeFollows : List ℕ → Type 0
SchemeFollows i = (scheme : List ℕ) × (behind : List ℕ) × (i ≡ scheme ++ 58 ∷ behind) × AreSchemeCharacters scheme
    × (behind ≢ [])

-- the same with a letter in front
abbrev pub HasScheme : List ℕ → Type 0
HasScheme i = (first : ℕ) × (rest : List ℕ) × (i ≡ first ∷ rest) × IsTrue (is_ascii_alphabetic first)
    × SchemeFollows rest

-- a uniformResourceIdentifier that isn't so
abbrev pub IsRelativeName : NameValue → Type 0
IsRelativeName (uniform_resource_identifier w) = ¬ HasScheme w
IsRelativeName _ = ⊥

-- a uniformResourceIdentifier with an authority that has no host
abbrev pub IsHostlessName : NameValue → Type 0
IsHostlessName (uniform_resource_identifier w) = HasNoHost w
IsHostlessName _ = ⊥

-- an rfc822Name that isn't a mailbox
abbrev pub IsNoMailbox : NameValue → Type 0
IsNoMailbox (rfc822_name w) = ¬ IsMailbox Ascii w
IsNoMailbox _ = ⊥

-- a dNSName that isn't in the preferred name syntax
abbrev pub IsOtherHost : NameValue → Type 0
IsOtherHost (dns_name w) = ¬ IsPreferredName w
IsOtherHost _ = ⊥

-- id-on-SmtpUTF8Mailbox OBJECT IDENTIFIER ::= { id-on 9 }, where id-on is 1.3.6.1.5.5.7.8 (RFC 9598 3)
abbrev pub smtp_utf8_mailbox : List ℕ
smtp_utf8_mailbox = 43 ∷ 6 ∷ 1 ∷ 5 ∷ 5 ∷ 7 ∷ 8 ∷ 9 ∷ []

-- the byte order mark in UTF-8
abbrev pub BeginsWithMark : List ℕ → Type 0
BeginsWithMark w = (rest : List ℕ) × (w ≡ 0xEF ∷ 0xBB ∷ 0xBF ∷ rest)

-- A mailbox with a character beyond ASCII, without a byte order mark. Its domain is of ASCII, so its local part isn't.
abbrev pub IsMailboxBeyondAscii : List ℕ → Type 0
IsMailboxBeyondAscii w = IsMailbox Utf8 w × IsTrue (list_any (λ b. nat_le 0x80 b) w) × (¬ BeginsWithMark w)

abbrev pub IsInternationalText : List ℕ → Type 0
IsInternationalText w = IsUtf8 w × IsMailboxBeyondAscii w

-- SmtpUTF8Mailbox ::= UTF8String (SIZE (1..MAX))                        (RFC 9598 3)
abbrev pub IsInternationalMailbox : Element → Type 0
IsInternationalMailbox e = (e.0 ≡ Universal) × (e.1 ≡ false) × (e.2 ≡ 12) × IsInternationalText e.3

-- an SmtpUTF8Mailbox that isn't so
abbrev pub IsNoInternationalMailbox : NameValue → Type 0
IsNoInternationalMailbox (other_name n) = (n.0 ≡ smtp_utf8_mailbox) × (¬ IsInternationalMailbox n.1.0)
IsNoInternationalMailbox _ = ⊥

-- a directoryName of which attributes descend, where by DER they ascend
abbrev pub IsDisorderedName : NameValue → Type 0
IsDisorderedName (directory_name w) = HasDescent w
IsDisorderedName _ = ⊥

-- a directoryName with an attribute whose value isn't of its type
abbrev pub IsMistypedName : NameValue → Type 0
IsMistypedName (directory_name w) = HasMistyped w
IsMistypedName _ = ⊥

-- the name breaks the rule
abbrev pub BreaksName : NameRule → NameValue → Type 0
BreaksName NotEmpty n = IsEmptyName n
BreaksName AddressOctets n = IsOddAddress n
BreaksName NotBlank n = IsBlankName n
BreaksName Scheme n = IsRelativeName n
BreaksName Host n = IsHostlessName n
BreaksName Mailbox n = IsNoMailbox n
BreaksName PreferredName n = IsOtherHost n
BreaksName InternationalMailbox n = IsNoInternationalMailbox n
BreaksName OrderedAttributes n = IsDisorderedName n
BreaksName TypedAttributes n = IsMistypedName n
BreaksName LdapEntry n = IsOddEntry n
BreaksName LdapAttribute n = HasSeveralAttributes n
BreaksName PartyName n = IsNoParty n

-- one of these names does, if there are any
abbrev pub SomeNameBreaks : NameRule → Option (List ℕ) → Type 0
SomeNameBreaks r None = ⊥
SomeNameBreaks r (Some w) = Among GeneralName (BreaksName r) w

-- a name that breaks a rule of names
abbrev pub IsBadName : NameValue → Type 0
IsBadName n = IsEmptyName n ⊎ IsOddAddress n ⊎ IsBlankName n ⊎ IsRelativeName n ⊎ IsHostlessName n ⊎ IsNoMailbox n
    ⊎ IsOtherHost n ⊎ IsNoInternationalMailbox n ⊎ IsDisorderedName n ⊎ IsMistypedName n ⊎ IsOddEntry n
    ⊎ HasSeveralAttributes n ⊎ IsNoParty n
