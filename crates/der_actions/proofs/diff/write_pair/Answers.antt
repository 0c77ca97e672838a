use Rattle.std.proofs.lemmas.Result.{on_ok_weaker}
use Rattle.der_actions.proofs.Changing.{writes_both, writes_kept}
use Rattle.der_actions.proofs.diff.write_pair.Goals as goal

pub returns-then-is_alike : goal.returns-then-is_alike
returns-then-is_alike g c = writes_kept _ _ _ _ (c.is_alike.ensures.0 c.if-is_alike.true)

pub returns : goal.returns
returns g c = on_ok_weaker c.write_one_added.result (λ a. writes_both c.in_ok-write_removed.ensures a) c.write_one_added.ensures
