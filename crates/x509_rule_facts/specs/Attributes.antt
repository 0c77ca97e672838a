-- Attributes of names, and the strings that their values are (RFC 5280 A.1).
use Rattle.std.specs.Prelude.{◌≡◌, ℕ, ◌≤◌, ◌/◌, ◌⊎◌, ◌↔◌, Bool, false, true, ◌||◌, nat_lt, nat_le, ◌==◌, if◌then◌else◌}
use Rattle.std.specs.Prelude.{IfSome, Option, Some, None, List, [], ◌∷◌, length, slice_index_or}
use Rattle.std.specs.List.{count_by}
use Rattle.der_base.specs.declared.header.Class.TheVariants.{Universal}
use Rattle.der_cursor.specs.Elements.{Element}
use Rattle.x509.specs.Certificates.{Attribute, Signed, attribute}
use Rattle.x509.specs.Formats.{set}
use Rattle.x509.specs.Lists.{Somewhere}
use Rattle.x509_rule_facts.specs.declared.attributes.AttributeKind.{AttributeKind}
use Rattle.x509_rule_facts.specs.declared.attributes.AttributeKind.TheVariants as kind
use Rattle.x509_rule_facts.specs.declared.attributes.StringKind.{StringKind}
use Rattle.x509_rule_facts.specs.declared.attributes.StringKind.TheVariants.{Printable, Ia5, Directory}

-- id-at AttributeType ::= { joint-iso-ccitt(2) ds(5) 4 }
abbrev pub id_at : ℕ → List ℕ
id_at n = 85 ∷ 4 ∷ n ∷ []

-- the content octets of the identifier
abbrev pub kind_octets : AttributeKind → List ℕ
kind_octets kind.CountryName = id_at 6
kind_octets kind.SerialNumber = id_at 5
kind_octets kind.DnQualifier = id_at 46
kind_octets kind.DomainComponent = 9 ∷ 146 ∷ 38 ∷ 137 ∷ 147 ∷ 242 ∷ 44 ∷ 100 ∷ 1 ∷ 25 ∷ []
kind_octets kind.EmailAddress = 42 ∷ 134 ∷ 72 ∷ 134 ∷ 247 ∷ 13 ∷ 1 ∷ 9 ∷ 1 ∷ []
kind_octets kind.CommonName = id_at 3
kind_octets kind.OrganizationName = id_at 10
kind_octets kind.OrganizationalUnitName = id_at 11
kind_octets kind.Title = id_at 12
kind_octets kind.LocalityName = id_at 7
kind_octets kind.StateOrProvinceName = id_at 8
kind_octets kind.Pseudonym = id_at 65
kind_octets kind.Name = id_at 41
kind_octets kind.Surname = id_at 4
kind_octets kind.GivenName = id_at 42
kind_octets kind.Initials = id_at 43
kind_octets kind.GenerationQualifier = id_at 44

-- their places in that order
abbrev pub kind_number : AttributeKind → ℕ
kind_number kind.CountryName = 0
kind_number kind.SerialNumber = 1
kind_number kind.DnQualifier = 2
kind_number kind.DomainComponent = 3
kind_number kind.EmailAddress = 4
kind_number kind.CommonName = 5
kind_number kind.OrganizationName = 6
kind_number kind.OrganizationalUnitName = 7
kind_number kind.Title = 8
kind_number kind.LocalityName = 9
kind_number kind.StateOrProvinceName = 10
kind_number kind.Pseudonym = 11
kind_number kind.Name = 12
kind_number kind.Surname = 13
kind_number kind.GivenName = 14
kind_number kind.Initials = 15
kind_number kind.GenerationQualifier = 16

abbrev pub kind_count : ℕ
kind_count = 17

-- the strings that the value may be
abbrev pub string_of : AttributeKind → StringKind
string_of kind.CountryName = Printable
string_of kind.SerialNumber = Printable
string_of kind.DnQualifier = Printable
string_of kind.DomainComponent = Ia5
string_of kind.EmailAddress = Ia5
string_of kind.CommonName = Directory
string_of kind.OrganizationName = Directory
string_of kind.OrganizationalUnitName = Directory
string_of kind.Title = Directory
string_of kind.LocalityName = Directory
string_of kind.StateOrProvinceName = Directory
string_of kind.Pseudonym = Directory
string_of kind.Name = Directory
string_of kind.Surname = Directory
string_of kind.GivenName = Directory
string_of kind.Initials = Directory
string_of kind.GenerationQualifier = Directory

-- the least and the most characters
abbrev pub least_of : AttributeKind → ℕ
least_of kind.CountryName = 2
least_of kind.SerialNumber = 1
least_of kind.DnQualifier = 0
least_of kind.DomainComponent = 0
least_of kind.EmailAddress = 1
least_of kind.CommonName = 1
least_of kind.OrganizationName = 1
least_of kind.OrganizationalUnitName = 1
least_of kind.Title = 1
least_of kind.LocalityName = 1
least_of kind.StateOrProvinceName = 1
least_of kind.Pseudonym = 1
least_of kind.Name = 1
least_of kind.Surname = 1
least_of kind.GivenName = 1
least_of kind.Initials = 1
least_of kind.GenerationQualifier = 1

abbrev pub most_of : AttributeKind → Option ℕ
most_of kind.CountryName = Some 2
most_of kind.SerialNumber = Some 64
most_of kind.DnQualifier = None
most_of kind.DomainComponent = None
most_of kind.EmailAddress = Some 255
most_of kind.CommonName = Some 64
most_of kind.OrganizationName = Some 64
most_of kind.OrganizationalUnitName = Some 64
most_of kind.Title = Some 64
most_of kind.LocalityName = Some 128
most_of kind.StateOrProvinceName = Some 128
most_of kind.Pseudonym = Some 128
most_of kind.Name = Some 32768
most_of kind.Surname = Some 32768
most_of kind.GivenName = Some 32768
most_of kind.Initials = Some 32768
most_of kind.GenerationQualifier = Some 32768

-- the numbers of the types
abbrev pub IsString : StringKind → ℕ → Type 0
IsString Printable t = t ≡ 19
IsString Ia5 t = t ≡ 22
IsString Directory t = (t ≡ 12) ⊎ (t ≡ 19) ⊎ (t ≡ 20) ⊎ (t ≡ 28) ⊎ (t ≡ 30)

-- the octets of UTF-8 but those from 0x80 to 0xBF, of which none begins a character
abbrev pub begins_character : ℕ → Bool
begins_character b = nat_lt b 0x80 || nat_le 0xC0 b

-- how many characters the octets of a string are: of UTF8String (12), UniversalString (28), BMPString (30), others
abbrev pub character_count : ℕ → List ℕ → ℕ
character_count t w = if t == 12 then count_by begins_character w else if t == 28 then length w / 4
    else if t == 30 then length w / 2 else length w

abbrev pub FitsKind : AttributeKind → ℕ → Type 0
FitsKind k n = IfSome (most_of k) (λ m. (least_of k ≤ n) × (n ≤ m))

-- the value is one of the type and of the size
abbrev pub IsOfKind : AttributeKind → Element → Type 0
IsOfKind k e = (e.0 ≡ Universal) × (e.1 ≡ false) × IsString (string_of k) e.2 × FitsKind k (character_count e.2 e.3)

-- the attribute is of the kind, and its value isn't so
abbrev pub IsBad : AttributeKind → Attribute → Type 0
IsBad k a = (a.identifier ≡ kind_octets k) × (¬ IsOfKind k a.value)

-- a relative name of the name has an attribute of the kind
abbrev pub HasKind : AttributeKind → List ℕ → Type 0
HasKind k i = Somewhere set (λ w _. Somewhere attribute (λ a _. a.identifier ≡ kind_octets k) w) i

-- the attribute is of one of the kinds, and its value isn't so
abbrev pub IsMistyped : Attribute → Type 0
IsMistyped a = (k : AttributeKind) × IsBad k a

-- a relative name of the name has such an attribute
abbrev pub HasMistyped : List ℕ → Type 0
HasMistyped i = Somewhere set (λ w _. Somewhere attribute (λ a _. IsMistyped a) w) i

-- the same of one kind
abbrev pub HasBadAttribute : AttributeKind → List ℕ → Type 0
HasBadAttribute k i = Somewhere set (λ w _. Somewhere attribute (λ a _. IsBad k a) w) i

-- the issuer or the subject has one
abbrev pub BreaksAttribute : AttributeKind → Signed → Type 0
BreaksAttribute k c = let t = c.tbs_certificate in HasBadAttribute k t.issuer ⊎ HasBadAttribute k t.subject

-- Which kinds are bad, one after another in their order.
abbrev pub IsMarked : List Bool → AttributeKind → Type 0
IsMarked bad k = slice_index_or bad (kind_number k) false ≡ true

-- those of which P holds are marked, and the others stay as they are
pub record Marks (P : AttributeKind → Type 0) (old new : List Bool) : Type 0 where
  pub all : length new ≡ kind_count
  pub each : (k : AttributeKind) → IsMarked new k ↔ (IsMarked old k ⊎ P k)

-- those whose rule the certificate breaks are marked
pub record AreBadKinds (c : Signed) (bad : List Bool) : Type 0 where
  pub all : length bad ≡ kind_count
  pub each : (k : AttributeKind) → IsMarked bad k ↔ BreaksAttribute k c
