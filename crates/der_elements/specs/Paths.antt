-- The text of a path.
use Rattle.std.specs.Prelude.{ℕ, List, [], ◌∷◌, ◌++◌, codes, decimal}
use Rattle.der_base.specs.declared.header.Class.{Class}
use Rattle.der_base.specs.declared.header.Class.TheVariants.{Universal, Application, ContextSpecific, Private}
use Rattle.der_elements.specs.declared.path.Step.{Step}
use Rattle.der_elements.specs.TypeNames.{type_text}

-- the index after a universal type; a tag of another class has none
abbrev pub index_text : Class → ℕ → List ℕ
index_text Universal n = codes "[" ++ decimal n ++ codes "]"
index_text Application n = []
index_text ContextSpecific n = []
index_text Private n = []

-- a step, such as SEQUENCE[2] or [3]
abbrev pub step_text : Step → List ℕ
step_text s = type_text s.name.class s.name.number ++ index_text s.name.class s.index

-- steps, each after a dot
abbrev pub further_text : List Step → List ℕ
further_text [] = []
further_text (s ∷ steps) = codes "." ++ step_text s ++ further_text steps

-- the steps of a path, with dots between them
abbrev pub path_text : List Step → List ℕ
path_text [] = []
path_text (s ∷ steps) = step_text s ++ further_text steps
