-- The names of the elements of an input by a type, and how the input matches the type.
use Rattle.std.specs.Prelude.{◌≡◌, ℕ, true, false, MatchOption, Option, Some, None, List, [], ◌∷◌, ◌++◌}
use Rattle.std.specs.Option.{is_some}
use Rattle.der_base.specs.declared.rules.Rules.{Rules}
use Rattle.text_json.specs.declared.fields.named.Named.{Named}
use Rattle.text_json.specs.declared.fields.named.Named.TheVariants.{Whole, Lacks, Left, Refused}
use Rattle.der_schema.specs.Encodings.{all_seen, seen_in}
use Rattle.der_schema.specs.Ends.{is_whole_after}
use Rattle.der_schema.specs.Known.{all_extras}
use Rattle.der_schema.specs.Meaning.{Label, Root}
use Rattle.der_schema.specs.Opened.{name_after}
use Rattle.der_elements.specs.Visits.{Visited, Visits}
use Rattle.der_elements.specs.Walked.{IsRefused}

-- the name by a type of an element after others of an input; None if it isn't in the type
abbrev pub label_after : Root → List ℕ → List Visited → Visited → Option Label
label_after sc i before v = name_after sc (all_seen i before) (seen_in i v)

-- the text of a name; empty if there is none
abbrev pub label_text : Option Label → List ℕ
label_text (Some l) = l.text
label_text None = []

-- each of the first elements of an input is in the type
abbrev pub AreInType : Root → List ℕ → List Visited → Type 0
AreInType sc i vs = (before after : List Visited) (v : Visited) → vs ≡ before ++ v ∷ after
    → is_some (label_after sc i before v) ≡ true

-- the first of these elements that isn't in the type begins at this offset
pub record LeavesAt (sc : Root) (i : List ℕ) (vs : List Visited) (offset : ℕ) : Type 0 where
  pub before : List Visited
  pub element : Visited
  pub after : List Visited
  pub parts : vs ≡ before ++ element ∷ after
  pub in_type : AreInType sc i before
  pub not_in_type : is_some (label_after sc i before element) ≡ false
  pub here : offset ≡ element.offset

abbrev pub LeavesOrNot : Root → List ℕ → List Visited → Option ℕ → Type 0
LeavesOrNot sc i vs left = MatchOption left (AreInType sc i vs) (LeavesAt sc i vs)

-- the offset of the first element that isn't in the type, after one more element with this name and offset
abbrev pub left_past : Option ℕ → Option Label → ℕ → Option ℕ
left_past left (Some l) offset = left
left_past (Some p) None offset = Some p
left_past None None offset = Some offset

-- how an input matches a type: it consists of these elements, or is rejected after them
abbrev pub Fits : Root → Rules → List ℕ → List Visited → Named → Type 0
Fits sc r i vs Whole = Visits all_extras r 101 0 0 i vs × AreInType sc i vs
    × (is_whole_after sc (all_seen i vs) ≡ true)
Fits sc r i vs Lacks = Visits all_extras r 101 0 0 i vs × AreInType sc i vs
    × (is_whole_after sc (all_seen i vs) ≡ false)
Fits sc r i vs (Left offset) = Visits all_extras r 101 0 0 i vs × LeavesAt sc i vs offset
Fits sc r i vs (Refused end) = IsRefused all_extras r i vs end.walk end.refusal × LeavesOrNot sc i vs end.left

-- how an input matches a type, with some elements
abbrev pub FitsSomehow : Root → Rules → List ℕ → Named → Type 0
FitsSomehow sc r i named = (vs : List Visited) × Fits sc r i vs named

-- two answers are the same, or both reject the input
abbrev pub AreSame : Named → Named → Type 0
AreSame (Refused _) (Refused _) = Unit {0}
AreSame n m = n ≡ m

-- Law: an input matches a type in only one way.
abbrev pub FitsInOneWay : Type 0
FitsInOneWay = (sc : Root) (r : Rules) (i : List ℕ) (vs us : List Visited) (n m : Named) → Fits sc r i vs n
    → Fits sc r i us m → AreSame n m
