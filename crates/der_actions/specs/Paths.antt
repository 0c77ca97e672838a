-- The path to an element: by the types of the elements around it, and by the names of fields.
use Rattle.std.specs.Prelude.{◌≡◌, ℕ, MatchOption, Option, Some, None, List, [], ◌∷◌, ◌++◌, map, take}
use Rattle.text_json.specs.Fields.Fields.{label_after}
use Rattle.der_schema.specs.declared.name_path.NameStep.{NameStep}
use Rattle.der_schema.specs.declared.schema.Schema.{Schema}
use Rattle.der_schema.specs.Meaning.{Label, Root, root_of}
use Rattle.der_schema.specs.NamePaths.{name_path_text}
use Rattle.der_schema.specs.Steps.{label_of}
use Rattle.der_elements.specs.declared.path.Step.{Step}
use Rattle.der_elements.specs.Visits.{Visited}
use Rattle.der_elements.specs.Walked.{index_in}

-- the last step of the path to an element with this index
abbrev pub step_at : ℕ → Visited → Step
step_at n v = record { name = record { class = v.class; number = v.number }; index = n }

-- the path to the last of some elements: the steps of the elements around it, and its own; others were visited before,
-- the last of them with this path
unfoldable pub path_from : List Visited → List Step → List Visited → List Step
path_from before path [] = path
path_from before path (v ∷ vs) =
    path_from (before ++ v ∷ []) (take v.depth path ++ step_at (index_in v.depth before) v ∷ []) vs

-- the path to the last of the elements that were visited
abbrev pub path_of : List Visited → List Step
path_of vs = path_from [] [] vs

-- a step, with the name of its element by a type; None if it isn't in the type
pub record Labelled : Type 0 where
  pub label : Option Label
  pub step : Step

abbrev pub labelled : NameStep → Labelled
labelled s = record { label = label_of s.name; step = s.step }

-- the last step of the path to v, which is visited after others in i
abbrev pub labelled_step : Root → List ℕ → List Visited → Visited → Labelled
labelled_step sc i before v = record { label = label_after sc i before v; step = step_at (index_in v.depth before) v }

-- the path to the last of some elements, with names from a type; others were visited before in i, the last of them with
-- this path
unfoldable pub labels_from : Root → List ℕ → List Visited → List Labelled → List Visited → List Labelled
labels_from sc i before path [] = path
labels_from sc i before path (v ∷ vs) =
    labels_from sc i (before ++ v ∷ []) (take v.depth path ++ labelled_step sc i before v ∷ []) vs

-- the path to the last of the elements that were visited in i, with names from a type
abbrev pub labels_of : Root → List ℕ → List Visited → List Labelled
labels_of sc i vs = labels_from sc i [] [] vs

-- a text is that path, made of names
abbrev pub IsNamePath : Root → List ℕ → List Visited → List ℕ → Type 0
IsNamePath sc i vs text =
    (steps : List NameStep) × (map labelled steps ≡ labels_of sc i vs) × (name_path_text steps ≡ text)

-- a text is the path of names to the last element, if a type names the input; without a type there is no such path
abbrev pub HasNamePath : Option Schema → List ℕ → List Visited → List ℕ → Type 0
HasNamePath None i vs text = ⊥
HasNamePath (Some schema) i vs text = IsNamePath (root_of schema) i vs text

-- the path of names; None without a type
abbrev pub IsNamePathOf : Option Schema → List ℕ → List Visited → Option (List ℕ) → Type 0
IsNamePathOf s i vs path = MatchOption path (s ≡ None) (λ text. HasNamePath s i vs text)
