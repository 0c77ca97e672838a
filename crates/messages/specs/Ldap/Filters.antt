-- Filters, as their ASN.1 has them (RFC 4511 4.5.1.7), and the parts of their text (RFC 4515).
use Rattle.std.specs.Borrow.{Bor}
use Rattle.std.specs.Prelude.{◌≡◌, ℕ, zero, suc, ◌==◌, ◌&&◌, not, Bool, true, false, Option, Some, None}
use Rattle.std.specs.Prelude.{List, [], ◌∷◌, ◌++◌, length, map, IfErr, OnOk, Result}
use Rattle.std.specs.List.{flat_map}
use Rattle.std.specs.Option.{option_map}
use Rattle.der_base.specs.declared.error.Error.{Error as BerError}
use Rattle.der_base.specs.declared.header.Class.TheVariants.{ContextSpecific}
use Rattle.der_cursor.specs.declared.cursor.Cursor.{Cursor}
use Rattle.der_cursor.specs.declared.error.ReadError.{ReadError}
use Rattle.der_cursor.specs.Formats.{As, Boolean, Choice, Constructed, Content, Each, Field, Format, Implicit, Limited}
use Rattle.der_cursor.specs.Formats.{NoMemory, OctetString, Only, Optional, Others, ReadsContent, ReadsField}
use Rattle.der_cursor.specs.Formats.{Required, Sequence, ◌⨾◌}
use Rattle.messages.specs.declared.ldap.filter.Connective.{Connective}
use Rattle.messages.specs.declared.ldap.filter.Connective.TheVariants.{Not}
use Rattle.messages.specs.declared.ldap.filter.FilterKind.{FilterKind}
use Rattle.messages.specs.declared.ldap.filter.FilterKind.TheVariants.{Connective as Connected, Item}
use Rattle.messages.specs.declared.ldap.filter.FilterPart.{FilterPart}
use Rattle.messages.specs.declared.ldap.filter.FilterPart.TheVariants.{Open, Close, Comparison as ComparisonPart}
use Rattle.messages.specs.declared.ldap.filter.FilterPart.TheVariants.{Substrings as SubstringsPart}
use Rattle.messages.specs.declared.ldap.filter.FilterPart.TheVariants.{Present as PresentPart}
use Rattle.messages.specs.declared.ldap.filter.FilterPart.TheVariants.{Extensible as ExtensiblePart}
use Rattle.messages.specs.declared.ldap.filter.ItemKind.{ItemKind}
use Rattle.messages.specs.declared.ldap.filter.ItemKind.TheVariants.{Comparison, Substrings, Present, Extensible}
use Rattle.messages.specs.declared.ldap.filter.Piece.{Piece}
use Rattle.messages.specs.declared.ldap.filter.Place.{Place}
use Rattle.messages.specs.declared.ldap.filter.Place.TheVariants.{Initial, Any, Final}
use Rattle.messages.specs.declared.ldap.filter.Relation.{Relation}
use Rattle.messages.specs.Ldap.FilterKinds.{filter_number, item_number, place_number}

-- a piece of a value
abbrev pub PieceValue : Type 0
PieceValue = Place × List ℕ

-- A part of a filter, in the order of its text. `opened` begins an and, an or or a not, and `closed` ends it.
pub data Part : Type 0 where
  opened : Connective → Part
  closed : Part
  comparison : Relation → List ℕ → List ℕ → Part
  substrings : List ℕ → List PieceValue → Part
  present : List ℕ → Part
  extensible : Option (List ℕ) → Option (List ℕ) → List ℕ → Option Bool → Part

-- Filters without filters inside.

-- AttributeValueAssertion ::= SEQUENCE {                                      (4.1.6)
abbrev pub ComparisonContent : Relation → Content Part
ComparisonContent k = As (λ v. comparison k v.0 v.1.0) (
    Required OctetString  -- attributeDesc   AttributeDescription,
    ⨾ (Required OctetString  -- assertionValue  AssertionValue }
    ⨾ Others))

-- CHOICE { initial [0], any [1], final [2] AssertionValue }
abbrev pub PieceType : Place → Format (List ℕ)
PieceType p = Implicit (place_number p) OctetString

-- a piece at this place, which is or isn't the first, and is or isn't the last
abbrev pub may_stand : Place → Bool → Bool → Bool
may_stand Initial first last = first
may_stand Any first last = true
may_stand Final first last = last

-- pieces, of which the first is or isn't the first of all: there is one, an initial one is the first, a final the last
abbrev pub in_order : Bool → List PieceValue → Bool
in_order first [] = not first
in_order first (p ∷ ps) = may_stand p.0 first (length ps == 0) && in_order false ps

abbrev pub AreInOrder : List PieceValue → Type 0
AreInOrder pieces = in_order true pieces ≡ true

-- SEQUENCE SIZE (1..MAX) OF substring CHOICE { .. }
abbrev pub AnyPieces : Format (List PieceValue)
AnyPieces = Sequence (Each (Choice PieceType))

abbrev pub Pieces : Format (List PieceValue)
Pieces = Limited AreInOrder AnyPieces

-- SubstringFilter ::= SEQUENCE {
abbrev pub SubstringsContent : Content Part
SubstringsContent = As (λ v. substrings v.0 v.1.0) (
    Required OctetString  -- type        AttributeDescription,
    ⨾ (Required Pieces  -- substrings  SEQUENCE SIZE (1..MAX) OF .. }
    ⨾ Others))

-- MatchingRuleAssertion ::= SEQUENCE {
abbrev pub ExtensibleContent : Content Part
ExtensibleContent = As (λ v. extensible v.0 v.1.0 v.1.1.0 v.1.1.1.0) (
    Optional (Implicit 1 OctetString)  -- matchingRule  [1] MatchingRuleId OPTIONAL,
    ⨾ (Optional (Implicit 2 OctetString)  -- type          [2] AttributeDescription OPTIONAL,
    ⨾ (Required (Implicit 3 OctetString)  -- matchValue    [3] AssertionValue,
    ⨾ (Optional (Implicit 4 Boolean)  -- dnAttributes  [4] BOOLEAN DEFAULT FALSE }
    ⨾ Others))))

abbrev pub item_content : ItemKind → Content Part
item_content (Comparison k) = ComparisonContent k
item_content Substrings = SubstringsContent
item_content Present = As (λ v. present v) OctetString.content
item_content Extensible = ExtensibleContent

abbrev pub is_item_list : ItemKind → Bool
is_item_list Present = false
is_item_list k = true

abbrev pub ItemType : ItemKind → Format Part
ItemType k = record {
  class = ContextSpecific;
  number = item_number k;
  constructed = is_item_list k;
  content = item_content k;
}

-- Filters. F is the field of those inside.

-- and [0] SET OF filter Filter, or [1] SET OF filter Filter, not [2] Filter; a SET OF may be empty (RFC 4526)
abbrev pub inside_content : Field (List Part) → Connective → Content (List Part)
inside_content F Not = Only F
inside_content F c = As (λ v. flat_map (λ w. w) v) (Each F)

abbrev pub enclosed : Connective → List Part → List Part
enclosed c v = opened c ∷ (v ++ closed ∷ [])

abbrev pub filter_content : Field (List Part) → FilterKind → Content (List Part)
filter_content F (Connected c) = As (enclosed c) (inside_content F c)
filter_content F (Item k) = As (λ p. p ∷ []) (item_content k)

abbrev pub is_list : FilterKind → Bool
is_list (Connected c) = true
is_list (Item k) = is_item_list k

abbrev pub FilterType : Field (List Part) → FilterKind → Format (List Part)
FilterType F k = record {
  class = ContextSpecific;
  number = filter_number k;
  constructed = is_list k;
  content = filter_content F k;
}

-- one of these types
unfoldable pub OneOf : Field (List Part) → Field (List Part)
OneOf F r i v rest = (k : FilterKind) × Required (FilterType F k) r i v rest

-- none
abbrev pub NoFilter : Field (List Part)
NoFilter r i v rest = ⊥

-- Filter ::= CHOICE { .. }, of which at most so many are inside each other
unfoldable pub FilterField : ℕ → Field (List Part)
FilterField zero = NoFilter
FilterField (suc n) = OneOf (FilterField n)

-- What the structs stand for.

abbrev pub piece_of : Piece → PieceValue
piece_of x = (x.place, x.value.now)

abbrev pub pieces_of : List Piece → List PieceValue
pieces_of v = map piece_of v

abbrev pub option_now : Option (Bor (List ℕ)) → Option (List ℕ)
option_now o = option_map (λ x. x.now) o

abbrev pub part_of : FilterPart → Part
part_of (Open c) = opened c
part_of Close = closed
part_of (ComparisonPart k a v) = comparison k a.now v.now
part_of (SubstringsPart a v) = substrings a.now (pieces_of v.items)
part_of (PresentPart a) = present a.now
part_of (ExtensiblePart k a v d) = extensible (option_now k) (option_now a) v.now d

abbrev pub filter_of : List FilterPart → List Part
filter_of v = map part_of v

-- Readers that add the parts that they read to others.

pub record Adds (F : Field (List Part)) (before after : List FilterPart) (old : Cursor)
    (result : Result (Unit {0}) (ReadError BerError)) (new : Cursor) : Type 0 where
  pub parts : List Part
  pub added : OnOk result (filter_of after ≡ filter_of before ++ parts)
  pub reads : ReadsField F (λ (x : Unit {0}). parts) NoMemory old result new

pub record AddsContent (C : Content (List Part)) (before after : List FilterPart) (c : Cursor)
    (result : Result (Unit {0}) (ReadError BerError)) : Type 0 where
  pub parts : List Part
  pub added : OnOk result (filter_of after ≡ filter_of before ++ parts)
  pub reads : ReadsContent C (λ (x : Unit {0}). parts) NoMemory c result

-- one part is added, or there is no memory
pub record IsAdded (part : FilterPart) (before : List FilterPart) (result : Result (Unit {0}) (ReadError BerError))
    (after : List FilterPart) : Type 0 where
  pub added : OnOk result (filter_of after ≡ filter_of before ++ part_of part ∷ [])
  pub memory : IfErr result NoMemory
