use Rattle.std.specs.Prelude.{string_bytes}
use Rattle.der_actions.proofs.NamePaths.{has_some}
use Rattle.der_actions.proofs.fields.Fields.has_path.Goals as goal

pub returns-in-Some : goal.returns-in-Some
returns-in-Some c =
    λ s i vs h.
    let path = rw c.in-Some.is at (c.in_ok-path.ensures s i vs h) in
    has_some s i vs (string_bytes c.in-Some.path) c.args.text.now c.is_same.result path
    (rw c.as_str.ensures.value at c.is_same.ensures)
