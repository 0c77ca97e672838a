-- Values of extensions that aren't of their type: what can be said of the error.
use Rattle.std.specs.Prelude.{◌≡◌, ℕ, ◌<◌, ◌≤◌, ◌⊎◌, true, Option, Some, None, List, [], ◌∷◌, codes, drop, length}
use Rattle.der_base.specs.declared.error.Error.{Error as BerError}
use Rattle.der_base.specs.declared.header.Class.TheVariants.{ContextSpecific, Universal}
use Rattle.der_base.specs.declared.rules.Rules.TheVariants.{Der}
use Rattle.der_cursor.specs.declared.error.ReadError.{ReadError}
use Rattle.der_cursor.specs.Elements.{Element}
use Rattle.der_cursor.specs.Formats.{AnyElement}
use Rattle.der_extensions.specs.Lists.{BeginsWithNone}
use Rattle.der_elements.specs.declared.name.TypeName.{TypeName}
use Rattle.extension_text.specs.Names.Pieces.{Exactly, ◌⨾◌}
use Rattle.extension_text.specs.Names.Values.{IsLineOf, octets_line}
use Rattle.extension_text.specs.declared.why.Why.{Why}
use Rattle.extension_text.specs.declared.why.Why.TheVariants.{AsRead, Default, Empty, LastBit}
use Rattle.extension_text.specs.Why.{error_text, why_of}

-- the element that octets begin with, by DER, if they begin with one
abbrev pub FindsElement : List ℕ → Option Element → Type 0
FindsElement i (Some e) = (rest : List ℕ) × AnyElement Der i e rest
FindsElement i None = BeginsWithNone AnyElement i

abbrev pub type_of : Element → TypeName
type_of e = record { class = e.0; number = e.2 }

-- octets begin with this identifier octet: that of a SEQUENCE, or of a BIT STRING (X.690 8.1.2, 8.6, 8.9)
abbrev pub BeginsWithOctet : ℕ → List ℕ → Type 0
BeginsWithOctet octet w = (rest : List ℕ) × (w ≡ octet ∷ rest)

abbrev pub IsSequence : List ℕ → Type 0
IsSequence w = BeginsWithOctet 0x30 w

abbrev pub IsBitString : List ℕ → Type 0
IsBitString w = BeginsWithOctet 0x03 w

-- an octet 0 in an element is the BOOLEAN FALSE, or under an implicit tag FALSE or the INTEGER 0 (8.2, 8.3, 8.14)
abbrev pub MayBeDefault : Element → Type 0
MayBeDefault e = (e.0 ≡ ContextSpecific) ⊎ ((e.0 ≡ Universal) × (e.2 ≡ 1))

-- the value of a field by default: it is a value of its type, so that it is wrong only where it is that one
abbrev pub IsDefault : Element → Type 0
IsDefault e = (e.3 ≡ 0 ∷ []) × MayBeDefault e

abbrev pub IsEmptyList : Element → Type 0
IsEmptyList e = (e.3 ≡ []) × (e.1 ≡ true)

-- what can be said of an element in a SEQUENCE, or of the SEQUENCE itself, if its own value is wrong
pub data IsWhyWrongField (e : Element) (why : Why) : Type 0 where
  empty : IsEmptyList e → why ≡ Empty → IsWhyWrongField e why
  by_default : IsDefault e → why ≡ Default → IsWhyWrongField e why
  another : ¬ IsEmptyList e → ¬ IsDefault e → why ≡ AsRead → IsWhyWrongField e why

-- the same of an element of a value: a BIT STRING of a bit at least is wrong where the last one is 0
pub data IsWhyWrong (w : List ℕ) (e : Element) (why : Why) : Type 0 where
  field : IsSequence w → IsWhyWrongField e why → IsWhyWrong w e why
  bits : IsBitString w → 1 < length e.3 → why ≡ LastBit → IsWhyWrong w e why
  no_bits : IsBitString w → length e.3 ≤ 1 → why ≡ AsRead → IsWhyWrong w e why
  another_type : ¬ IsSequence w → ¬ IsBitString w → why ≡ AsRead → IsWhyWrong w e why

-- what can be said of an error by which this element is refused, if there is one
abbrev pub IsWhyOf : List ℕ → ReadError BerError → Option Element → Why → Type 0
IsWhyOf w r (Some e) why = (wrong : Why) × IsWhyWrong w e wrong × (why ≡ why_of r (Some (type_of e)) wrong)
IsWhyOf w r None why = why ≡ why_of r None AsRead

-- what can be said of the error of a value
abbrev pub IsWhyIn : List ℕ → ReadError BerError → Why → Type 0
IsWhyIn w r why = (e : Option Element) × FindsElement (drop r.offset w) e × IsWhyOf w r e why

-- the error, and the octets of the value, so far in
abbrev pub IsUnreadBy : List ℕ → List ℕ → ReadError BerError → Why → List ℕ → Type 0
IsUnreadBy indent w r why = Exactly indent ⨾ (IsLineOf (codes "Error in the value ") (error_text r why)
    ⨾ (Exactly indent ⨾ Exactly (octets_line (codes "Octets: ") w)))

abbrev pub IsUnread : List ℕ → List ℕ → ReadError BerError → List ℕ → Type 0
IsUnread indent w r text = (why : Why) × IsWhyIn w r why × IsUnreadBy indent w r why text
