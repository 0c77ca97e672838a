use Rattle.std.proofs.lemmas.Result.{on_ok_weaker}
use Rattle.der_actions.proofs.Changing.{writes_removed}
use Rattle.der_actions.proofs.diff.write_removed.Goals as goal

pub returns : goal.returns
returns g c = on_ok_weaker c.write_behind.result (λ a. writes_removed _ _ _ _ a.0 a.1 a.2) c.write_behind.ensures
