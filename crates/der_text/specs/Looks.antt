-- How a text of octets looks (docs/TEXT.md).
use Rattle.std.specs.Prelude.{◌≡◌, ◌≢◌, ◌↔◌, ◌⊎◌, ◌&&◌, not, Bool, true, false, IsTrue, if◌then◌else◌, MatchBool}
use Rattle.std.specs.Prelude.{ℕ, ◌+◌, ◌-◌, ◌*◌, ◌/◌, ◌^◌, ◌<◌, ◌≤◌, nat_lt, max, min, pos, neg_ℤ, ◌<ℤ◌, decimal}
use Rattle.std.specs.Prelude.{List, [], ◌∷◌, ◌++◌, length, take, drop, codes, count_by, find}
use Rattle.std.specs.Prelude.{Option, Some, None, IfSome}
use Rattle.std.specs.Fmt.{signed_decimal}
use Rattle.std.specs.List.{list_all, prefix_len}
use Rattle.std.specs.Option.{option_map}
use Rattle.std.specs.Str.{IsUtf8}
use Rattle.hex.specs.Hex.{encode_lower}
use Rattle.der_base.specs.declared.header.Class.{Class}
use Rattle.der_base.specs.declared.header.Class.TheVariants.{Universal, Application, ContextSpecific, Private}
use Rattle.der_base.specs.declared.header.Header.{Header}
use Rattle.der_base.specs.declared.header.Length.{Length}
use Rattle.der_base.specs.declared.header.Length.TheVariants.{Definite, Indefinite as WithoutLength}
use Rattle.der_base.specs.Arcs.{arcs}
use Rattle.der_base.specs.Header.{class_of, is_constructed, length_of, number_of}
use Rattle.der_base.specs.Headers.{BeginsWithHeader}
use Rattle.der_base.specs.Octets.{identifier, integer_value}
use Rattle.der_base.specs.Pretty.{arcs_text, spaces}
use Rattle.der_text.specs.declared.element.Element.{Element}
use Rattle.der_text.specs.declared.item.Form.{Form}
use Rattle.der_text.specs.declared.item.Form.TheVariants.{Shortest, Long, Indefinite}
use Rattle.der_text.specs.Encoded.{length_octets}
use Rattle.der_text.specs.Lexemes.{ends_part, is_word}
use Rattle.der_text.specs.Printed.{Adds, HasParts, is_plain}
use Rattle.der_text.specs.Words.{basic_types, constructed_types, or_else, other_types, same, string_types}
use Rattle.der_text.specs.Words.{tag_octets, word_octets}

-- the word of a table that has these octets
abbrev pub word_in : List (List ℕ × List ℕ) → List ℕ → Option (List ℕ)
word_in table w = option_map (λ row. row.0) (find (λ row. same row.1 w) table)

-- the name of the universal type with these identifier octets
abbrev pub name_of_type : List ℕ → Option (List ℕ)
name_of_type w =
    or_else (word_in basic_types w) (or_else (word_in constructed_types w)
    (or_else (word_in string_types w) (word_in other_types w)))

-- the tag of another element, which stands in brackets
abbrev pub class_text : Class → List ℕ
class_text Universal = codes "UNIVERSAL "
class_text Application = codes "APPLICATION "
class_text ContextSpecific = []
class_text Private = codes "PRIVATE "

abbrev pub form_text : Bool → List ℕ
form_text constructed = if constructed then [] else codes " PRIMITIVE"

abbrev pub tag_text : Header → List ℕ
tag_text h = class_text (class_of h) ++ (decimal (number_of h) ++ form_text (is_constructed h))

-- the value of a BOOLEAN by DER (X.690 11.1)
abbrev pub boolean_text : List ℕ → Option (List ℕ)
boolean_text w =
    if same w (0 ∷ []) then Some (codes "FALSE") else if same w (255 ∷ []) then Some (codes "TRUE") else None

-- a number in decimal (8.3.3), unless it is out of range
abbrev pub IsNumberText : List ℕ → Option (List ℕ) → Type 0
IsNumberText w (Some text) = text ≡ signed_decimal (integer_value w)
IsNumberText w None = (integer_value w <ℤ neg_ℤ (pos (2 ^ 63))) ⊎ (pos (2 ^ 64 - 1) <ℤ integer_value w)

-- the word of the content of a universal type with this tag number
pub record IsWordOf (number : ℕ) (w : List ℕ) (word : Option (List ℕ)) : Type 0 where
  pub boolean : number ≡ 1 → word ≡ boolean_text w
  pub integer : number ≡ 2 → IsNumberText w word
  pub enumerated : number ≡ 10 → IsNumberText w word
  pub identifier : number ≡ 6 → word ≡ Some (arcs_text (arcs false w) w)
  pub other : number ≢ 1 → number ≢ 2 → number ≢ 10 → number ≢ 6 → word ≡ None

-- the word of a content
pub record IsValueText (h : Header) (w : List ℕ) (word : Option (List ℕ)) : Type 0 where
  pub universal : class_of h ≡ Universal → IsWordOf (number_of h) w word
  pub other : class_of h ≢ Universal → word ≡ None

-- a word that reads back as these octets
pub record HasWord (word w : List ℕ) : Type 0 where
  pub some : 0 < length word
  pub all : list_all is_word word ≡ true
  pub has : word_octets word ≡ Some w

-- a tag that does
pub record HasTag (tag w : List ℕ) : Type 0 where
  pub inside : list_all (λ c. not (ends_part 93 c)) tag ≡ true
  pub has : tag_octets tag ≡ Some w

-- what is written if something is so, and nothing else
abbrev pub WritesIf : Type 0 → List ℕ → List ℕ → List ℕ → Bool → Type 0
WritesIf P old new text written = MatchBool written (P × (new ≡ old ++ text)) ((¬ P) × (new ≡ old))

-- ---- octets

-- the first octets are in quotes, in a text whose first octets may be
abbrev pub is_quoted : Bool → List ℕ → Bool
is_quoted text w = text && nat_lt 0 (prefix_len is_plain w)

-- how many octets are in hexadecimal at once
abbrev pub hexadecimal_size : Bool → List ℕ → ℕ
hexadecimal_size text w =
    if text then max (prefix_len (λ c. not (is_plain c)) (take 32 w)) 1 else min 32 (length w)

abbrev pub part_size : Bool → List ℕ → ℕ
part_size text w = if is_quoted text w then prefix_len is_plain w else hexadecimal_size text w

abbrev pub after_part : Bool → List ℕ → List ℕ
after_part text w = drop (part_size text w) w

abbrev pub part_text : Bool → List ℕ → List ℕ
part_text text w =
    let part = take (part_size text w) w in
    if is_quoted text w then 34 ∷ (part ++ 34 ∷ 32 ∷ []) else 96 ∷ (encode_lower part ++ 96 ∷ 32 ∷ [])

-- octets that are no text are on lines of their own
abbrev pub is_broken : Bool → List ℕ → Bool
is_broken text rest = not text && nat_lt 0 (length rest)

abbrev pub break_text : Bool → ℕ → List ℕ
break_text more indent = if more then 10 ∷ spaces indent else []

-- octets are written as text: they are UTF-8, and at most a quarter of them can't be in quotes
abbrev pub IsText : List ℕ → Type 0
IsText w = IsUtf8 w × (length w - count_by is_plain w ≤ length w / 4)

-- octets in parts, with further lines indented
pub data InParts (text : Bool) (indent : ℕ) : List ℕ → List ℕ → Type 0 where
  no_octets : InParts text indent [] []
  part : (w out : List ℕ) → 0 < length w → InParts text indent (after_part text w) out
      → InParts text indent w
      (part_text text w ++ (break_text (is_broken text (after_part text w)) indent ++ out))

pub record OctetsText (indent : ℕ) (w out : List ℕ) : Type 0 where
  pub text : Bool
  pub is_text : IsTrue text ↔ IsText w
  pub parts : InParts text indent w out

-- on one line or several
abbrev pub LineText : ℕ → List ℕ → List ℕ → Type 0
LineText indent w text = (out : List ℕ) × OctetsText indent w out × (text ≡ out ++ 10 ∷ [])

-- ---- elements

-- a content ends after its length, or at the end of the octets
abbrev pub EndsContent : Length → List ℕ → List ℕ → Type 0
EndsContent (Definite n) content rest = length content ≡ n
EndsContent WithoutLength content rest = rest ≡ []

-- a content in front of octets, and what length octets of a form say of it
pub record IsContent (l : Length) (octets behind content rest : List ℕ) (f : Form) : Type 0 where
  pub whole : behind ≡ content ++ rest
  pub ends : EndsContent l content rest
  pub form : length_octets f (length content) ≡ Some octets

pub record IsElementOf (h : Header) (id octets behind : List ℕ) (x : Element) : Type 0 where
  pub header : x.header ≡ h
  pub identifier : x.identifier.now ≡ id
  pub length : x.length.now ≡ octets
  pub content : IsContent (length_of h) octets behind x.content.now x.rest.now x.form

-- the element that is first by BER, all of whose content is there: with an indefinite length it is all that follows
pub record IsFirst (w : List ℕ) (x : Element) : Type 0 where
  pub parts : HasParts w x
  pub header : BeginsWithHeader w (class_of x.header) (is_constructed x.header) (number_of x.header)
      (length_of x.header) (x.content.now ++ x.rest.now)
  pub identifier : x.identifier.now
      ≡ identifier (class_of x.header) (is_constructed x.header) (number_of x.header)
  pub ends : EndsContent (length_of x.header) x.content.now x.rest.now

-- there is no other
abbrev pub IsOnlyFirst : List ℕ → Element → Type 0
IsOnlyFirst w x = (y : Element) → IsFirst w y → (y.rest.now ≡ x.rest.now) × (y.identifier.now ≡ x.identifier.now)

abbrev pub HasFirst : List ℕ → Type 0
HasFirst w = (x : Element) × IsFirst w x

-- the name of the type, or else the tag, if it has these identifier octets
abbrev pub NamesElement : Element → List ℕ → Type 0
NamesElement x text = elim (name_of_type x.identifier.now) [
  | Some name ↦ HasWord name x.identifier.now × (text ≡ name ++ 32 ∷ [])
  | None ↦ HasTag (tag_text x.header) x.identifier.now × (text ≡ 91 ∷ (tag_text x.header ++ 93 ∷ 32 ∷ []))
]

abbrev pub WritesName : Element → List ℕ → List ℕ → Bool → Type 0
WritesName x old new written =
    MatchBool written (Adds old new (NamesElement x)) (((name : List ℕ) → ¬ NamesElement x name) × (new ≡ old))

-- one SEQUENCE or SET
abbrev pub IsList : List ℕ → Type 0
IsList w = (x : Element) × IsFirst w x × (x.rest.now ≡ [])
    × ((x.identifier.now ≡ 0x30 ∷ []) ⊎ (x.identifier.now ≡ 0x31 ∷ []))

-- a content is written as elements
abbrev pub HasElements : Element → Type 0
HasElements x = (is_constructed x.header ≡ true)
    ⊎ ((class_of x.header ≡ Universal) × (number_of x.header ≡ 4) × IsList x.content.now)

-- the word of its content, if this has it
abbrev pub WritesWordOf : Element → List ℕ → List ℕ → Bool → Type 0
WritesWordOf x old new written = MatchBool written
    ((word : List ℕ) × IsValueText x.header x.content.now (Some word) × HasWord word x.content.now
    × (new ≡ old ++ (word ++ 32 ∷ [])))
    ((found : Option (List ℕ)) × IsValueText x.header x.content.now found
    × IfSome found (λ word. ¬ HasWord word x.content.now) × (new ≡ old))

-- a word, or octets
pub data ValueText (x : Element) (indent : ℕ) : List ℕ → Type 0 where
  word : (word : List ℕ) → IsValueText x.header x.content.now (Some word) → HasWord word x.content.now
      → ValueText x indent (word ++ 32 ∷ [])
  octets : (found : Option (List ℕ)) → IsValueText x.header x.content.now found
      → IfSome found (λ word. ¬ HasWord word x.content.now) → (out : List ℕ)
      → OctetsText indent x.content.now out → ValueText x indent out

-- what opens a content (8.1.3)
abbrev pub form_word : Form → List ℕ
form_word Shortest = []
form_word (Long count) = codes "long-form:" ++ (decimal count ++ 32 ∷ [])
form_word Indefinite = codes "indefinite "

abbrev pub open_text : Form → List ℕ
open_text f = form_word f ++ 123 ∷ []

-- end-of-contents octets are first (8.1.5)
abbrev pub BeginsWithEnd : List ℕ → Type 0
BeginsWithEnd w = (rest : List ℕ) × (w ≡ 0 ∷ 0 ∷ rest)

-- an indefinite length of all that follows
abbrev pub IsToEnd : Element → Type 0
IsToEnd x = (x.form ≡ Indefinite) × (x.rest.now ≡ [])

mutual
  -- elements at a level, to the end of the octets
  pub data ElementsText : ℕ → List ℕ → List ℕ → Type 0 where
    too_deep : (w out : List ℕ) → OctetsText 202 w out → ElementsText 100 w out
    no_more : (d : ℕ) → d < 100 → ElementsText d [] []
    element : (d : ℕ) (w rest one out : List ℕ) → d < 100 → ElementText d w rest one → ElementsText d rest out
        → ElementsText d w (one ++ out)

  -- elements at a level, up to end-of-contents octets; what follows these is the rest
  pub data ToEndText : ℕ → List ℕ → List ℕ → List ℕ → Type 0 where
    no_end : (d : ℕ) → ToEndText d [] [] []
    end_octets : (d : ℕ) (rest : List ℕ) → ToEndText d (0 ∷ 0 ∷ rest) rest (spaces (2 * d) ++ codes "END\n")
    too_deep_to_end : (w out : List ℕ) → 0 < length w → ¬ BeginsWithEnd w → OctetsText 202 w out
        → ToEndText 100 w [] out
    element_before : (d : ℕ) (w rest after one out : List ℕ) → d < 100 → ¬ BeginsWithEnd w → ElementText d w rest one
        → ToEndText d rest after out → ToEndText d w after (one ++ out)

  -- the first element, or all octets if there is none
  pub data ElementText : ℕ → List ℕ → List ℕ → List ℕ → Type 0 where
    all_octets : (d : ℕ) (w out : List ℕ) → 0 < length w → ¬ HasFirst w → OctetsText (2 * d + 2) w out
        → ElementText d w [] (spaces (2 * d) ++ (out ++ 10 ∷ []))
    unnamed : (d : ℕ) (w out : List ℕ) (x : Element) → IsFirst w x → ((name : List ℕ) → ¬ NamesElement x name)
        → OctetsText (2 * d + 2) w out → ElementText d w [] (spaces (2 * d) ++ (out ++ 10 ∷ []))
    named : (d : ℕ) (w rest name out : List ℕ) (x : Element) → IsFirst w x → NamesElement x name
        → BracesText d x rest out → ElementText d w rest (spaces (2 * d) ++ (name ++ out))

  -- a content between braces; what follows the element is the rest
  pub data BracesText : ℕ → Element → List ℕ → List ℕ → Type 0 where
    to_end : (d : ℕ) (x : Element) (rest out : List ℕ) → IsToEnd x → ToEndText (d + 1) x.content.now rest out
        → BracesText d x rest (open_text x.form ++ (10 ∷ (out ++ (spaces (2 * d) ++ 125 ∷ 10 ∷ []))))
    whole : (d : ℕ) (x : Element) (out : List ℕ) → ¬ IsToEnd x → ContentText d x out
        → BracesText d x x.rest.now (open_text x.form ++ (out ++ 125 ∷ 10 ∷ []))

  -- a content: elements on lines of their own, or a value
  pub data ContentText : ℕ → Element → List ℕ → Type 0 where
    elements : (d : ℕ) (x : Element) (out : List ℕ) → HasElements x → ElementsText (d + 1) x.content.now out
        → ContentText d x (10 ∷ (out ++ spaces (2 * d)))
    value : (d : ℕ) (x : Element) (out : List ℕ) → ¬ HasElements x → ValueText x (2 * d + 2) out
        → ContentText d x (32 ∷ out)
