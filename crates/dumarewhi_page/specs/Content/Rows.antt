-- Elements as rows of numbers.
use Rattle.std.specs.Int.{from_bool}
use Rattle.std.specs.Prelude.{◌≡◌, ℕ, suc, ◌-◌, ◌==◌, if◌then◌else◌, Option, Some, None, is_some, unwrap_or}
use Rattle.std.specs.Prelude.{List, [], ◌∷◌, ◌++◌, length, take}
use Rattle.der_base.specs.Octets.{class_number}
use Rattle.der_base.specs.declared.header.Class.{Class}
use Rattle.der_base.specs.declared.header.Class.TheVariants.{Universal, Application, ContextSpecific, Private}
use Rattle.der_base.specs.declared.rules.Rules.{Rules}
use Rattle.der_base.specs.declared.rules.Rules.TheVariants.{Ber, Der}
use Rattle.der_elements.specs.declared.path.Step.{Step}
use Rattle.der_elements.specs.Visits.{Visited}
use Rattle.der_elements.specs.Walked.{index_in}
use Rattle.dumarewhi_page.specs.declared.content.row.PageRow.{PageRow}

-- the class with this number in the first two bits of an identifier octet (X.690 8.1.2.2)
abbrev pub class_numbered : ℕ → Class
class_numbered n =
    if n == 0 then Universal else (if n == 1 then Application else (if n == 2 then ContextSpecific else Private))

-- the rules by which a string holds an element, as a number, and those with this number
abbrev pub holds_number : Option Rules → ℕ
holds_number None = 0
holds_number (Some Der) = 1
holds_number (Some Ber) = 2

abbrev pub holds_numbered : ℕ → Option Rules
holds_numbered n = if n == 0 then None else (if n == 1 then Some Der else Some Ber)

-- the element that a row is of
abbrev pub visited_in : PageRow → Visited
visited_in r = record {
  offset = r.offset;
  header = r.header;
  length = if r.definite == 1 then Some r.length else None;
  class = class_numbered r.tag_class;
  constructed = r.constructed == 1;
  number = r.number;
  depth = r.depth;
  holds = holds_numbered r.holds;
  breaks_its_type = r.breaks_its_type == 1;
}

-- the last step of the path to it
abbrev pub step_in : PageRow → Step
step_in r = record { name = record { class = class_numbered r.tag_class; number = r.number }; index = r.index }

-- The row of an element. It has this index among those of the same content. The element around it has the row of the
-- number around, from 1, or there is none, and around is 0.
abbrev pub row_of : Visited → ℕ → ℕ → PageRow
row_of v index around = record {
  offset = v.offset;
  header = v.header;
  length = unwrap_or v.length 0;
  depth = v.depth;
  index = index;
  around = around;
  number = v.number;
  tag_class = class_number v.class;
  constructed = from_bool v.constructed;
  definite = from_bool (is_some v.length);
  holds = holds_number v.holds;
  breaks_its_type = from_bool v.breaks_its_type;
}

-- the number, from 1, of the last of these elements with k around it, after n others; or else the number l
unfoldable pub last_with : ℕ → ℕ → ℕ → List Visited → ℕ
last_with k l n [] = l
last_with k l n (v ∷ vs) = last_with k (if v.depth == k then suc n else l) (suc n) vs

-- the number of the element around the next one with k around it, after these; or 0
abbrev pub around_in : ℕ → List Visited → ℕ
around_in k vs = if k == 0 then 0 else last_with (k - 1) 0 0 vs

-- the row of v after others
abbrev pub row_after : List Visited → Visited → PageRow
row_after before v = row_of v (index_in v.depth before) (around_in v.depth before)

unfoldable pub rows_after : List Visited → List Visited → List PageRow
rows_after before [] = []
rows_after before (v ∷ vs) = row_after before v ∷ rows_after (before ++ v ∷ []) vs

-- the first n rows are those of these elements, as far as there is room
abbrev pub AreRows : List Visited → List PageRow → ℕ → Type 0
AreRows vs rows n = (n ≡ length vs) × (take n rows ≡ take (length rows) (rows_after [] vs))
