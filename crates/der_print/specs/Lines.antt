-- The line that is printed of an element.
use Rattle.std.specs.Prelude.{◌≡◌, ℕ, ◌+◌, ◌-◌, ◌*◌, ◌/◌, min, Bool, if◌then◌else◌, MatchBool, MatchOption}
use Rattle.std.specs.Prelude.{Option, Some, None, List, [], ◌∷◌, ◌++◌, codes, decimal, length}
use Rattle.std.specs.Option.{unwrap_or}
use Rattle.std.specs.Io.KnownBytes.{Appends}
use Rattle.der_base.specs.declared.rules.Rules.{Rules}
use Rattle.der_base.specs.declared.rules.Rules.TheVariants.{Ber, Der}
use Rattle.der_base.specs.Pretty.{spaces}
use Rattle.der_print.specs.declared.style.Limit.{Limit}
use Rattle.der_print.specs.declared.style.Limit.TheVariants.{Whole, Front, Columns}
use Rattle.der_print.specs.declared.style.Style.{Style}
use Rattle.der_print.specs.Cuts.{behind, cut}
use Rattle.der_print.specs.Remarks.{IsRemark}
use Rattle.der_print.specs.Shown.{IsShown}
use Rattle.der_print.specs.Values.{IsValue}
use Rattle.der_elements.specs.Ends.{between}
use Rattle.der_elements.specs.TypeNames.{type_text}
use Rattle.der_elements.specs.Visits.{Visited}
use Rattle.oid_names.specs.OwnNames.{Named}

-- a text with spaces before it, up to so many columns, and one with spaces after it
abbrev pub at_right : ℕ → List ℕ → List ℕ
at_right columns text = spaces (columns - length text) ++ text

abbrev pub at_left : ℕ → List ℕ → List ℕ
at_left columns text = text ++ spaces (columns - length text)

-- the number of content octets that the header gives, or that it gives none (X.690 8.1.3.6)
abbrev pub length_text : Option ℕ → List ℕ
length_text (Some n) = decimal n
length_text None = codes "inf"

-- where the element begins, and how many octets its header and its content have
abbrev pub place_text : ℕ → ℕ → Option ℕ → List ℕ
place_text offset header l =
    at_right 7 (decimal offset) ++ codes " " ++ at_right 2 (decimal header) ++ codes "+" ++ at_left 7 (length_text l)
    ++ codes " "

-- the most spaces before the name of a field and the type: those of an element with 100 around it, which none has more
-- of, but half of the columns of a line behind its numbers
abbrev pub most_spaces : Limit → ℕ
most_spaces (Columns columns) = min 200 ((columns - 19) / 2)
most_spaces Whole = 200
most_spaces Front = 200

-- two spaces for each element around it
abbrev pub indentation : Limit → ℕ → List ℕ
indentation limit depth = spaces (min (depth * 2) (most_spaces limit))

-- what precedes the name of the field and the type
abbrev pub margin_text : Limit → Visited → List ℕ
margin_text limit v = place_text v.offset v.header v.length ++ indentation limit v.depth

-- what begins dim letters and bold ones, and ends them, where there are colours (ECMA-48 8.3.117)
abbrev pub letters : Bool → List ℕ → List ℕ
letters colours code = if colours then 0x1b ∷ code else []

abbrev pub dim : Bool → List ℕ
dim colours = letters colours (codes "[2m")

abbrev pub bold : Bool → List ℕ
bold colours = letters colours (codes "[1m")

abbrev pub plain : Bool → List ℕ
plain colours = letters colours (codes "[0m")

-- the name of a field and a space, or nothing where the name is empty
abbrev pub field_text : List ℕ → List ℕ
field_text [] = []
field_text (c ∷ cs) = (c ∷ cs) ++ codes " "

-- how much of the line is left behind the margin, and behind the name of the field
abbrev pub left_of_margin : Limit → Visited → Limit
left_of_margin limit v = behind limit (cut limit (margin_text limit v))

abbrev pub left_of_field : Limit → List ℕ → Visited → Limit
left_of_field limit field v = let left = left_of_margin limit v in behind left (cut left (field_text field))

-- the type or tag, as much as fits
abbrev pub type_part : Limit → List ℕ → Visited → List ℕ
type_part limit field v = cut (left_of_field limit field v) (type_text v.class v.number)

-- what precedes the value: the margin, the name of the field, the type or tag
abbrev pub front_text : Bool → Limit → List ℕ → Visited → List ℕ
front_text colours limit field v =
    dim colours ++ cut limit (margin_text limit v) ++ plain colours ++ cut (left_of_margin limit v) (field_text field)
    ++ bold colours ++ type_part limit field v ++ plain colours

-- how much of the line is left for the value
abbrev pub limit_of : Limit → List ℕ → Visited → Limit
limit_of limit field v = behind (left_of_field limit field v) (type_part limit field v)

-- the value of an element with this content, and nothing where the content is elements
abbrev pub IsValueAlone : Limit → Visited → List ℕ → List ℕ → Type 0
IsValueAlone limit v w text = MatchOption v.holds
    (MatchBool v.constructed (text ≡ []) (IsValue None limit v.class v.number w text)) (λ s. text ≡ [])

-- a remark after two spaces
abbrev pub after_spaces : Option (List ℕ) → List ℕ
after_spaces (Some remark) = codes "  " ++ remark
after_spaces None = []

-- how much is printed of a value that something is said of: half of the columns are for the remark
abbrev pub limit_beside : Limit → Option (List ℕ) → Limit
limit_beside (Columns columns) (Some remark) = Columns (columns / 2)
limit_beside limit remark = limit

-- the value of a primitive element with this content, and what is said of one that breaks its type
pub record IsValueSaid (own : Option (List Named)) (limit : Limit) (v : Visited) (w text : List ℕ) : Type 0 where
  pub remark : Option (List ℕ)
  pub is_remark : IsRemark v w remark
  pub value : List ℕ
  pub is_value : IsValue own (limit_beside limit remark) v.class v.number w value
  pub whole : text ≡ value ++ after_spaces remark

-- by which rules a string holds an element
abbrev pub holding_text : Rules → List ℕ
holding_text Ber = codes " holding BER"
holding_text Der = codes " holding DER"

-- what follows that, of an element with this content: nothing for a constructed one, or the value; the element inside
-- a string has a line of its own
abbrev pub IsEnding : Option (List Named) → Limit → Visited → List ℕ → List ℕ → Type 0
IsEnding own limit v w text = MatchOption v.holds
    (MatchBool v.constructed (text ≡ []) (IsValueSaid own limit v w text)) (λ s. text ≡ holding_text s)

-- the line of an element with this content, which is a field of this name: that and the line's end
pub record IsLineOf (own : Option (List Named)) (field : List ℕ) (style : Style) (v : Visited) (w line : List ℕ)
    : Type 0 where
  pub value : List ℕ
  pub shown : IsShown value
  pub ending : IsEnding own (limit_of style.limit field v) v w value
  pub whole : line ≡ front_text style.colours style.limit field v ++ cut (limit_of style.limit field v) value
      ++ codes "\n"

-- known octets grew by the line of an element
pub record AddsLineOf (own : Option (List Named)) (field : List ℕ) (style : Style) (v : Visited) (w : List ℕ)
    (old new : Option (List ℕ)) : Type 0 where
  pub line : List ℕ
  pub is_line : IsLineOf own field style v w line
  pub adds : Appends old new line

-- the line of an element with this text in place of what follows the type, which says nothing of the content
abbrev pub outline : List ℕ → List ℕ → Style → Visited → List ℕ
outline ending field style v =
    front_text style.colours style.limit field v ++ cut (limit_of style.limit field v) ending ++ codes "\n"

-- the same without the name of a field
abbrev pub IsNamedLine : Option (List Named) → Style → Visited → List ℕ → List ℕ → Type 0
IsNamedLine own style v w line = IsLineOf own [] style v w line

abbrev pub AddsNamedLine : Option (List Named) → Style → Visited → List ℕ → Option (List ℕ) → Option (List ℕ)
    → Type 0
AddsNamedLine own style v w old new = AddsLineOf own [] style v w old new

-- the same without a table of one's own
abbrev pub IsFieldLine : List ℕ → Style → Visited → List ℕ → List ℕ → Type 0
IsFieldLine field style v w line = IsLineOf None field style v w line

abbrev pub AddsFieldLine : List ℕ → Style → Visited → List ℕ → Option (List ℕ) → Option (List ℕ) → Type 0
AddsFieldLine field style v w old new = AddsLineOf None field style v w old new

-- the same without both
abbrev pub IsLine : Style → Visited → List ℕ → List ℕ → Type 0
IsLine style v w line = IsLineOf None [] style v w line

abbrev pub AddsLine : Style → Visited → List ℕ → Option (List ℕ) → Option (List ℕ) → Type 0
AddsLine style v w old new = AddsLineOf None [] style v w old new

-- the content octets of an element in an input
abbrev pub content_in : List ℕ → Visited → List ℕ
content_in i v = let p = v.offset + v.header in between i p (p + unwrap_or v.length 0)

-- a line for each of some elements in an input, in their order
pub data AreNamedLines (own : Option (List Named)) (style : Style) (i : List ℕ)
    : List Visited → List ℕ → Type 0 where
  no_lines : AreNamedLines own style i [] []
  one_more_line : {v : Visited} {vs : List Visited} (line rest : List ℕ)
      → IsNamedLine own style v (content_in i v) line → AreNamedLines own style i vs rest
      → AreNamedLines own style i (v ∷ vs) (line ++ rest)
