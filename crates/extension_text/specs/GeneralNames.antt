-- General names (RFC 5280 4.2.1.6).
use Rattle.std.specs.Prelude.{ℕ, ◌/◌, ◌==◌, ◌||◌, Bool, if◌then◌else◌, List, ◌++◌, codes, drop, length, take}
use Rattle.std.specs.Net.Addr.{segments_of}
use Rattle.std.specs.Net.Text.{ipv4_text, ipv6_text}
use Rattle.der_base.specs.declared.rules.Rules.TheVariants.{Der}
use Rattle.der_extensions.specs.GeneralNames.{GeneralName, NameValue, OtherNameValue, directory_name, dns_name}
use Rattle.der_extensions.specs.GeneralNames.{edi_party_name, ip_address, other_name, registered_id, rfc822_name}
use Rattle.der_extensions.specs.GeneralNames.{uniform_resource_identifier, x400_address}
use Rattle.extension_text.specs.Names.Identifiers.{IsIdentifier, IsIdentifierLine}
use Rattle.extension_text.specs.Names.Names.{IsNameLine}
use Rattle.extension_text.specs.Names.Pieces.{Each, Exactly, ◌⨾◌}
use Rattle.extension_text.specs.Names.Values.{any_text, hex, octets_line, plain_line}

-- addresses (RFC 791, RFC 4291)
abbrev pub longer_text : List ℕ → List ℕ
longer_text w = if length w == 16 then ipv6_text (segments_of w) else hex w

abbrev pub host_text : List ℕ → List ℕ
host_text w = if length w == 4 then ipv4_text w else longer_text w

-- an address and a mask, which are equally long (4.2.1.10)
abbrev pub has_mask : List ℕ → Bool
has_mask w = (length w == 8) || (length w == 32)

abbrev pub masked_text : List ℕ → List ℕ → List ℕ
masked_text address mask = host_text address ++ (codes "/" ++ host_text mask)

abbrev pub address_text : List ℕ → List ℕ
address_text w =
    if has_mask w then masked_text (take (length w / 2) w) (drop (length w / 2) w) else host_text w

abbrev pub address_line : List ℕ → List ℕ
address_line w = codes "IP address: " ++ (address_text w ++ codes "\n")

-- a name of a kind that its identifier says
abbrev pub IsOtherName : OtherNameValue → List ℕ → Type 0
IsOtherName n = Exactly (codes "Other name: ")
    ⨾ (IsIdentifier n.0 ⨾ Exactly (codes ", " ++ (any_text n.1.0 ++ codes "\n")))

-- a name by its kind
abbrev pub IsNameByKind : NameValue → List ℕ → Type 0
IsNameByKind (other_name n) = IsOtherName n
IsNameByKind (rfc822_name w) = Exactly (plain_line (codes "Email: ") w)
IsNameByKind (dns_name w) = Exactly (plain_line (codes "DNS name: ") w)
IsNameByKind (x400_address w) = Exactly (octets_line (codes "X.400 address: ") w)
IsNameByKind (directory_name w) = IsNameLine (codes "Directory name: ") w
IsNameByKind (edi_party_name w) = Exactly (octets_line (codes "EDI party name: ") w)
IsNameByKind (uniform_resource_identifier w) = Exactly (plain_line (codes "URI: ") w)
IsNameByKind (ip_address w) = Exactly (address_line w)
IsNameByKind (registered_id w) = IsIdentifierLine (codes "Registered ID: ") w

-- so far in
abbrev pub IsGeneralName : List ℕ → NameValue → List ℕ → Type 0
IsGeneralName indent v = Exactly indent ⨾ IsNameByKind v

abbrev pub AreGeneralNames : List ℕ → List ℕ → List ℕ → Type 0
AreGeneralNames indent i = Each (GeneralName Der) (IsGeneralName indent) i
