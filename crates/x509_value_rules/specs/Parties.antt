-- Names of parties in electronic data interchange (RFC 5280 4.2.1.6).
use Rattle.std.specs.Prelude.{◌≡◌, ◌≢◌, ℕ, false, Option, List, []}
use Rattle.std.specs.Option.{option_map}
use Rattle.der_base.specs.declared.header.Class.TheVariants.{Universal}
use Rattle.der_base.specs.declared.rules.Rules.TheVariants.{Der}
use Rattle.der_cursor.specs.Formats.{AnyElement, Content, Element, End, Explicit, Field, Optional, Required, element_of}
use Rattle.der_cursor.specs.Formats.{◌⨾◌}
use Rattle.der_extensions.specs.GeneralNames.{NameValue, edi_party_name}
use Rattle.x509_rule_facts.specs.declared.attributes.StringKind.TheVariants.{Directory}
use Rattle.x509_rule_facts.specs.Attributes.{IsString}
use Rattle.x509_value_rules.specs.declared.party_name.EdiPartyName.{EdiPartyName as PartyStruct}
use Rattle.x509_value_rules.specs.Notices.{Kept}

-- DirectoryString ::= CHOICE { teletexString TeletexString (SIZE (1..MAX)), .. } of five types  (A.1)
abbrev pub IsDirectoryString : Element → Type 0
IsDirectoryString e = (e.0 ≡ Universal) × (e.1 ≡ false) × IsString Directory e.2 × (e.3 ≢ [])

abbrev pub DirectoryString : Field Element
DirectoryString = Kept IsDirectoryString AnyElement

abbrev pub PartyValue : Type 0
PartyValue = Option Element × (Element × Unit {0})

-- EDIPartyName ::= SEQUENCE {                                           (4.2.1.6)
abbrev pub EDIPartyName : Content PartyValue
EDIPartyName = Optional (Explicit 0 DirectoryString)  -- nameAssigner              [0]  DirectoryString OPTIONAL,
    ⨾ (Required (Explicit 1 DirectoryString)  -- partyName                 [1]  DirectoryString }
    ⨾ End)

abbrev pub party_of : PartyStruct → PartyValue
party_of x = (option_map element_of x.name_assigner, (element_of x.party_name, tt))

-- the content octets are one
abbrev pub IsParty : List ℕ → Type 0
IsParty w = (v : PartyValue) × EDIPartyName Der w v

-- an ediPartyName whose content isn't one
abbrev pub IsNoParty : NameValue → Type 0
IsNoParty (edi_party_name w) = ¬ IsParty w
IsNoParty _ = ⊥
