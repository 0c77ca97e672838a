-- The text of a path, step by step.
use Rattle.std.proofs.Common.{◌≡◌, ℕ, ◌+◌, ◌<◌, List, [], ◌∷◌, ◌++◌, length, take, get_or, ap, refl, sym, ◌∙◌, append_assoc, codes}
use Rattle.std.proofs.lemmas.List.{append-nil, take_more}
use Rattle.der_elements.specs.declared.path.Step.{Step}
use Rattle.der_elements.specs.Paths.{further_text, step_text}

further_append : (v w : List Step) → further_text (v ++ w) ≡ further_text v ++ further_text w
further_append [] w = refl
further_append (s ∷ v) w = ap (λ t. codes "." ++ step_text s ++ t) (further_append v w) ∙ sym (append_assoc (codes "." ++ step_text s) (further_text v) (further_text w))

-- one step more
pub further_more : (steps : List Step) (i : ℕ) (s : Step) → i < length steps → further_text (take (i + 1) steps) ≡ further_text (take i steps) ++ (codes "." ++ step_text (get_or steps i s))
further_more steps i s h = ap further_text (take_more steps i s h) ∙ further_append (take i steps) (get_or steps i s ∷ [])
    ∙ ap (λ t. further_text (take i steps) ++ t) (append-nil (codes "." ++ step_text (get_or steps i s)))
