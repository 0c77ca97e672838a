use Rattle.std.proofs.Common.{[], ◌∷◌, ◌++◌}
use Rattle.der_elements.specs.Walked.{visited_of}
use Rattle.der_actions.proofs.place.is_at.Goals as goal

pub returns-in-Path : goal.returns-in-Path
returns-in-Path c =
    rw c.in-Path.is
    (λ s i vs path named. c.is_path.ensures s i (vs ++ visited_of c.args.element.now ∷ []) path named)
