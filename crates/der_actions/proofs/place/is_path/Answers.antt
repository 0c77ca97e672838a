use Rattle.std.proofs.Common.{◌≡◌, ◌∙◌, Bool, IsTrue, ap, false, true}
use Rattle.std.specs.Prelude.{◌↔◌}
use Rattle.der_elements.specs.Paths.{path_text}
use Rattle.der_actions.specs.Paths.{HasNamePath}
use Rattle.der_actions.specs.Places.{IsPathTo}
use Rattle.der_actions.proofs.NamePaths.{second_of, then_is}
use Rattle.der_actions.proofs.place.is_path.Goals as goal

no_truth : {P : Type 0} {b : Bool} → b ≡ false → b ≡ true → P
no_truth p q = cc

pub returns : goal.returns
returns c =
    λ s i vs path named.
    let text = c.args.path.now in
    then_is c.has_path-2.result (λ b. IsTrue b ↔ HasNamePath s i vs text) (λ b. IsTrue b ↔ IsPathTo s i vs text)
    (λ b h. second_of _ _ b (λ e. no_truth c.if-has_types.false (c.in_ok-has_types.ensures.1 (ap path_text path ∙ e))) h)
    (c.has_path-2.ensures s i vs named)
