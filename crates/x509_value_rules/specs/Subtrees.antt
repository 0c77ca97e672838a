-- What RFC 5280 asks of the subtrees of name constraints (4.2.1.10).
use Rattle.std.specs.Prelude.{◌≡◌, ◌≢◌, ℕ, ◌⊎◌, pos, false, Option, Some, None, List, [], length}
use Rattle.der_cursor.specs.Formats.{Required}
use Rattle.der_extensions.specs.Extensions.{GeneralSubtree, NameConstraintsValue, SubtreeValue}
use Rattle.der_extensions.specs.GeneralNames.{NameValue, dns_name, edi_party_name, ip_address, registered_id}
use Rattle.der_extensions.specs.GeneralNames.{rfc822_name, uniform_resource_identifier, x400_address}
use Rattle.x509_rule_facts.specs.declared.mailbox.LocalCharacters.TheVariants.{Ascii}
use Rattle.x509_value_rules.specs.declared.subtrees.SubtreeRule.{SubtreeRule}
use Rattle.x509_value_rules.specs.declared.subtrees.SubtreeRule.TheVariants.{NoDistance, NetworkOctets, NetworkMask}
use Rattle.x509_value_rules.specs.declared.subtrees.SubtreeRule.TheVariants.{HostOrDomain, MailboxOrHost, DomainName}
use Rattle.x509_value_rules.specs.declared.subtrees.SubtreeRule.TheVariants.{Base, UsualName}
use Rattle.x509_rule_facts.specs.Constraints.{EndsInMask, IsHostOrDomain}
use Rattle.x509_rule_facts.specs.HostNames.{is_host_name}
use Rattle.x509_rule_facts.specs.Lists.{Among}
use Rattle.x509_rule_facts.specs.Mailboxes.{IsMailbox}
use Rattle.x509_value_rules.specs.Names.{BreaksName}

-- the minimum isn't 0, or there is a maximum
abbrev pub HasDistance : SubtreeValue → Type 0
HasDistance v = (v.1.0 ≢ pos 0) ⊎ (v.1.1.0 ≢ None)

-- an address of neither IPv4 nor IPv6 with a mask
abbrev pub IsOddNetwork : NameValue → Type 0
IsOddNetwork (ip_address w) = (length w ≢ 8) × (length w ≢ 32)
IsOddNetwork _ = ⊥

-- an address whose second half isn't a mask
abbrev pub HasOddMask : NameValue → Type 0
HasOddMask (ip_address w) = ¬ EndsInMask w
HasOddMask _ = ⊥

-- a uniformResourceIdentifier that is the name of neither a host nor a domain
abbrev pub IsOddHost : NameValue → Type 0
IsOddHost (uniform_resource_identifier w) = ¬ IsHostOrDomain w
IsOddHost _ = ⊥

-- an rfc822Name that is neither a mailbox nor such a name
abbrev pub IsOddMailbox : NameValue → Type 0
IsOddMailbox (rfc822_name w) = (¬ IsMailbox Ascii w) × (¬ IsHostOrDomain w)
IsOddMailbox _ = ⊥

-- A dNSName that isn't the name of a host. Any name can be made of an empty one "by simply adding zero or more labels".
abbrev pub IsOddDomain : NameValue → Type 0
IsOddDomain (dns_name w) = (w ≢ []) × (is_host_name w ≡ false)
IsOddDomain _ = ⊥

-- a kind of name that constraints should not be of
abbrev pub IsUnusual : NameValue → Type 0
IsUnusual (x400_address w) = Unit {0}
IsUnusual (edi_party_name w) = Unit {0}
IsUnusual (registered_id w) = Unit {0}
IsUnusual _ = ⊥

-- the subtree breaks the rule
abbrev pub BreaksSubtree : SubtreeRule → SubtreeValue → Type 0
BreaksSubtree NoDistance v = HasDistance v
BreaksSubtree NetworkOctets v = IsOddNetwork v.0
BreaksSubtree NetworkMask v = HasOddMask v.0
BreaksSubtree HostOrDomain v = IsOddHost v.0
BreaksSubtree MailboxOrHost v = IsOddMailbox v.0
BreaksSubtree DomainName v = IsOddDomain v.0
BreaksSubtree (Base r) v = BreaksName r v.0
BreaksSubtree UsualName v = IsUnusual v.0

-- one of the subtrees breaks it, if there are any
abbrev pub SomeBroken : SubtreeRule → Option (List ℕ) → Type 0
SomeBroken r None = ⊥
SomeBroken r (Some w) = Among (Required GeneralSubtree) (BreaksSubtree r) w

-- a permitted or an excluded one does
abbrev pub HasBrokenSubtree : SubtreeRule → NameConstraintsValue → Type 0
HasBrokenSubtree r v = SomeBroken r v.0 ⊎ SomeBroken r v.1.0
