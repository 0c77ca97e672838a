-- The text of a path made of names, step by step.
use Rattle.std.proofs.Common.{◌≡◌, ℕ, ◌+◌, ◌<◌, List, [], ◌∷◌, ◌++◌, length, take, get_or, ap, refl, sym, ◌∙◌}
use Rattle.std.proofs.Common.{append_assoc}
use Rattle.std.proofs.lemmas.List.{append-nil, take_more}
use Rattle.der_schema.specs.declared.name_path.NameStep.{NameStep}
use Rattle.der_schema.specs.NamePaths.{further_names, name_step_text, point_text}

further_append : (v w : List NameStep) → further_names (v ++ w) ≡ further_names v ++ further_names w
further_append [] w = refl
further_append (s ∷ v) w =
    ap (λ t. point_text s ++ name_step_text s ++ t) (further_append v w)
    ∙ sym (append_assoc (point_text s ++ name_step_text s) (further_names v) (further_names w))

-- one step more
pub further_more : (steps : List NameStep) (i : ℕ) (s : NameStep) → i < length steps
    → further_names (take (i + 1) steps)
    ≡ further_names (take i steps) ++ (point_text (get_or steps i s) ++ name_step_text (get_or steps i s))
further_more steps i s h =
    ap further_names (take_more steps i s h) ∙ further_append (take i steps) (get_or steps i s ∷ [])
    ∙ ap (λ t. further_names (take i steps) ++ t)
    (append-nil (point_text (get_or steps i s) ++ name_step_text (get_or steps i s)))
