-- The text of a path of names.
use Rattle.std.specs.Prelude.{ℕ, Bool, true, false, not, ◌&&◌, if◌then◌else◌, Option, Some, None, List, [], ◌∷◌, ◌++◌}
use Rattle.std.specs.Prelude.{codes, decimal, drop}
use Rattle.der_schema.specs.declared.matching.Name.{Name}
use Rattle.der_schema.specs.declared.name_path.NameStep.{NameStep}
use Rattle.der_elements.specs.Paths.{step_text}
use Rattle.der_elements.specs.Visits.{Visited}

-- the last step of the path to an element with this name and index
abbrev pub name_step : Option Name → ℕ → Visited → NameStep
name_step name n v = record {
  name = name;
  step = record { name = record { class = v.class; number = v.number }; index = n };
}

abbrev pub is_empty : List ℕ → Bool
is_empty [] = true
is_empty (b ∷ bs) = false

-- the index of an item, or the name of a component
abbrev pub named_text : Name → ℕ → List ℕ
named_text name n = if name.is_item then codes "[" ++ decimal n ++ codes "]" else name.text.now

-- a name, an index, or the step of the walk if the element isn't in the schema
abbrev pub text_by : Option Name → NameStep → List ℕ
text_by None s = step_text s.step
text_by (Some name) s = named_text name s.step.index

abbrev pub name_step_text : NameStep → List ℕ
name_step_text s = text_by s.name s

-- an element without a name of its own, such as the one inside an explicit tag
abbrev pub is_unnamed : Name → Bool
is_unnamed name = not name.is_item && is_empty name.text.now

abbrev pub is_silent_by : Option Name → Bool
is_silent_by None = false
is_silent_by (Some name) = is_unnamed name

abbrev pub is_silent : NameStep → Bool
is_silent s = is_silent_by s.name

-- the separator before a step: a dot, but nothing before an index or an element without a name of its own
abbrev pub point_by : Option Name → List ℕ
point_by None = codes "."
point_by (Some name) = if name.is_item then [] else (if is_empty name.text.now then [] else codes ".")

abbrev pub point_text : NameStep → List ℕ
point_text s = point_by s.name

-- the steps from the first one that has a text
abbrev pub shown : List NameStep → List NameStep
shown [] = []
shown (s ∷ steps) = if is_silent s then shown steps else s ∷ steps

-- steps, each after its separator
abbrev pub further_names : List NameStep → List ℕ
further_names [] = []
further_names (s ∷ steps) = point_text s ++ name_step_text s ++ further_names steps

abbrev pub shown_text : List NameStep → List ℕ
shown_text [] = []
shown_text (s ∷ steps) = name_step_text s ++ further_names steps

-- the path to the last of these elements, each of which is around the next; the outermost one has the name of the type
-- and is left out
abbrev pub name_path_text : List NameStep → List ℕ
name_path_text steps = shown_text (shown (drop 1 steps))
