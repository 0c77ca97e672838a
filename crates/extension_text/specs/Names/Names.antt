-- Distinguished names as text (RFC 4514).
use Rattle.std.specs.Prelude.{◌≡◌, ◌≢◌, ℕ, ◌≤◌, ◌%◌, ◌⊎◌, ◌==◌, ◌&&◌, Bool, true, false, if◌then◌else◌}
use Rattle.std.specs.Prelude.{List, [], ◌∷◌, ◌++◌, codes, length, Option, Some, None, IfSome}
use Rattle.std.specs.Option.{unwrap_or}
use Rattle.der_base.specs.Octets.{shortest_length}
use Rattle.der_cursor.specs.Elements.{Element}
use Rattle.der_print.specs.Quotes.{pieces}
use Rattle.der_print.specs.Values.{IsNameOf, identifier_text}
use Rattle.x509.specs.Certificates.{Attribute, attribute}
use Rattle.x509.specs.Formats.{set, spells}
use Rattle.x509.specs.Lists.{BeginsWithNone}
use Rattle.extension_text.specs.Names.Escapes.{escaped}
use Rattle.extension_text.specs.Names.Pieces.{AreNext, Each, Exactly, ◌⨾◌}
use Rattle.extension_text.specs.Names.Values.{hex, is_string}

-- the short names of the types 2.5.4.n (RFC 4514 3, RFC 4519)
abbrev pub x520_name : ℕ → Option (List ℕ)
x520_name n =
    if n == 3 then Some (codes "CN") else if n == 4 then Some (codes "SN")
    else if n == 5 then Some (codes "serialNumber") else if n == 6 then Some (codes "C")
    else if n == 7 then Some (codes "L") else if n == 8 then Some (codes "ST")
    else if n == 9 then Some (codes "STREET") else if n == 10 then Some (codes "O")
    else if n == 11 then Some (codes "OU") else if n == 12 then Some (codes "title")
    else if n == 42 then Some (codes "GN") else if n == 97 then Some (codes "organizationIdentifier") else None

abbrev pub x520_short_name : List ℕ → Option (List ℕ)
x520_short_name (a ∷ b ∷ n ∷ []) = if (a == 0x55) && (b == 4) then x520_name n else None
x520_short_name w = None

-- 0.9.2342.19200300.100.1.25, 0.9.2342.19200300.100.1.1 and 1.2.840.113549.1.9.1
abbrev pub domain_component : List ℕ
domain_component = 9 ∷ 0x92 ∷ 0x26 ∷ 0x89 ∷ 0x93 ∷ 0xf2 ∷ 0x2c ∷ 0x64 ∷ 1 ∷ 25 ∷ []

abbrev pub user_id : List ℕ
user_id = 9 ∷ 0x92 ∷ 0x26 ∷ 0x89 ∷ 0x93 ∷ 0xf2 ∷ 0x2c ∷ 0x64 ∷ 1 ∷ 1 ∷ []

abbrev pub email_address : List ℕ
email_address = 0x2a ∷ 0x86 ∷ 0x48 ∷ 0x86 ∷ 0xf7 ∷ 0x0d ∷ 1 ∷ 9 ∷ 1 ∷ []

-- the short name of a type with these content octets
abbrev pub IsShortName : List ℕ → Option (List ℕ) → Type 0
IsShortName w name = ((w ≡ domain_component) × (name ≡ Some (codes "DC")))
    ⊎ ((w ≡ user_id) × (name ≡ Some (codes "UID")))
    ⊎ ((w ≡ email_address) × (name ≡ Some (codes "emailAddress")))
    ⊎ ((w ≢ domain_component) × (w ≢ user_id) × (w ≢ email_address) × (name ≡ x520_short_name w))

-- the name of a type: its short name, or one of the table of identifiers, which may be left out
abbrev pub IsTypeName : List ℕ → Option (List ℕ) → Type 0
IsTypeName w name = IsShortName w name ⊎ (IsShortName w None × IfSome name (IsNameOf w))

-- the octets of an element
abbrev pub header_hex : Element → List ℕ
header_hex e = hex (unwrap_or e.5 []) ++ hex (shortest_length (length e.3))

abbrev pub element_hex : Element → List ℕ
element_hex e = codes "#" ++ (header_hex e ++ hex e.3)

-- whether a BMPString has two octets for each character, and a UniversalString four
abbrev pub has_whole_characters : ℕ → List ℕ → Bool
has_whole_characters t w =
    if t == 28 then length w % 4 == 0 else if t == 30 then length w % 2 == 0 else true

abbrev pub value_text : Element → List ℕ
value_text e =
    if is_string e && has_whole_characters e.2 e.3 then escaped true (pieces e.2 e.3) else element_hex e

-- a value whose type has no name is written as its octets
abbrev pub type_and_value : Option (List ℕ) → Attribute → List ℕ
type_and_value (Some name) a = (name ++ codes "=") ++ value_text a.value
type_and_value None a = (identifier_text false a.identifier ++ codes "=") ++ element_hex a.value

abbrev pub IsAttribute : Attribute → List ℕ → Type 0
IsAttribute a text = (name : Option (List ℕ)) × IsTypeName a.identifier name × (text ≡ type_and_value name a)

abbrev pub IsAfterPlus : Attribute → List ℕ → Type 0
IsAfterPlus a = Exactly (codes "+") ⨾ IsAttribute a

abbrev pub AreFurther : List ℕ → List ℕ → Type 0
AreFurther i = Each (spells attribute) IsAfterPlus i

-- the attributes of a relative name, with plus signs between them
pub data IsRelativeName : List ℕ → List ℕ → Type 0 where
  no_attribute : {i : List ℕ} → BeginsWithNone attribute i → IsRelativeName i []
  attributes : {i text : List ℕ} (rest : List ℕ) (a : Attribute) → spells attribute i a rest
      → (IsAttribute a ⨾ AreFurther rest) text → IsRelativeName i text

-- relative names, the last one first, with commas between them (2.1)
abbrev pub comma : List (List ℕ) → List ℕ
comma [] = []
comma (w ∷ ws) = codes ","

abbrev pub Backwards : List (List ℕ) → List ℕ → Type 0
Backwards [] = Exactly []
Backwards (w ∷ ws) = Backwards ws ⨾ (Exactly (comma ws) ⨾ IsRelativeName w)

-- all relative names that octets begin with
abbrev pub IsName : List ℕ → List ℕ → Type 0
IsName i text = (ws : List (List ℕ)) × (end : List ℕ) × AreNext (spells set) ws i end × BeginsWithNone set end
    × Backwards ws text

-- octets begin with so many at least
abbrev pub HasNames : ℕ → List ℕ → Type 0
HasNames n i = (ws : List (List ℕ)) × (end : List ℕ) × AreNext (spells set) ws i end × (length ws ≡ n)

-- the text of the first so many
abbrev pub AreBackwards : ℕ → List ℕ → List ℕ → Type 0
AreBackwards n i text = (ws : List (List ℕ)) × (end : List ℕ) × AreNext (spells set) ws i end × (length ws ≡ n)
    × Backwards ws text

-- behind the first n are these octets: so many are asked for, or there are no more
abbrev pub Passes : ℕ → List ℕ → List ℕ → ℕ → Type 0
Passes most i end n = (ws : List (List ℕ)) × AreNext (spells set) ws i end × (length ws ≡ n) × (n ≤ most)
    × ((n ≡ most) ⊎ BeginsWithNone set end)

abbrev pub IsNameLine : List ℕ → List ℕ → List ℕ → Type 0
IsNameLine label i = Exactly label ⨾ (IsName i ⨾ Exactly (codes "\n"))
