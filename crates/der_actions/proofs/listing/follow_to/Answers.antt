use Rattle.std.proofs.Common.{◌≡◌, [], ◌∷◌, ◌++◌, take}
use Rattle.der_elements.specs.Walked.{visited_of}
use Rattle.der_actions.specs.Paths.{path_of, step_at}
use Rattle.der_actions.proofs.Trails.{on_ok_then, path_entered}
use Rattle.der_actions.proofs.listing.follow_to.Goals as goal

pub returns-in-Path : goal.returns-in-Path
returns-in-Path c =
    let e = c.args.element.now in
    let v = visited_of e in
    let old = c.args.trail.now.steps.items in
    let new = c.enter.new.self.steps.items in
    rw c.in-Path.is
    (λ vs path index. on_ok_then c.enter.result (new ≡ take v.depth old ++ step_at e.index v ∷ []) (new ≡ path_of (vs ++ v ∷ []))
    (λ entered. path_entered vs v old new e.index path index entered) c.enter.ensures)
