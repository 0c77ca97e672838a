-- The texts of the paths to an element and to the elements around it.
use Rattle.std.specs.Prelude.{◌≡◌, ℕ, Option, Some, None, List, [], ◌∷◌, ◌++◌, codes, map, string_bytes}
use Rattle.text_json.specs.declared.paths.Paths.{Paths}
use Rattle.der_elements.specs.declared.element.Element.{Element}
use Rattle.der_elements.specs.declared.path.Step.{Step}
use Rattle.der_elements.specs.Paths.{path_text, step_text}

-- the last step of the path to an element
abbrev pub step_of : Element → Step
step_of e = record { name = record { class = e.class; number = e.number }; index = e.index }

-- the texts of the paths that these steps lead to, one after another
abbrev pub texts_from : List Step → List Step → List (List ℕ)
texts_from before [] = []
texts_from before (s ∷ steps) = path_text (before ++ s ∷ []) ∷ texts_from (before ++ s ∷ []) steps

-- the text of the path to each element around is kept
abbrev pub HasTexts : Paths → List Step → Type 0
HasTexts p path = map string_bytes p.texts.items ≡ texts_from [] path

-- the text of a path with one more step
abbrev pub text_after : Option (List ℕ) → Step → List ℕ
text_after (Some before) s = before ++ (codes "." ++ step_text s)
text_after None s = step_text s
