use Rattle.std.proofs.Common.{rules}
use Rattle.std.proofs.lemmas.Result.{on_ok_weaker}
use Rattle.der_actions.proofs.Changing.{writes_none, writes_rest, writes_step}
use Rattle.der_actions.proofs.diff.write_changes.Goals as goal

pub loop-index-init : goal.loop-index-init
loop-index-init g c = record { within = search rules; written = writes_none _ _ }

pub loop-index-preserved : goal.loop-index-preserved
loop-index-preserved g c =
    let p = c.loop-index.invariant in
    let q = c.in_ok-passed.ensures in
    record { within = q.1; written = writes_step c.args.old.now c.args.new.now c.loop-index.index _ _ _ (search rules) q.0 p.written q.2 }

pub returns : goal.returns
returns g c =
    let p = c.loop-index.invariant in
    on_ok_weaker c.write_added.result (λ q. writes_rest c.args.old.now c.args.new.now c.loop-index.index _ (search rules) p.within p.written q) c.write_added.ensures
