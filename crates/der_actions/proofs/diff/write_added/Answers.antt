use Rattle.std.proofs.Common.{rules}
use Rattle.der_actions.proofs.Changing.{writes_all, writes_front, writes_none}
use Rattle.der_actions.proofs.diff.write_added.Goals as goal

pub loop-index-init : goal.loop-index-init
loop-index-init g c = record { written = writes_none _ _ }

pub loop-index-preserved : goal.loop-index-preserved
loop-index-preserved g c = record { written = writes_front c.args.new.now c.loop-index.index _ (search rules) c.loop-index.invariant.written c.in_ok-write_one_added.ensures }

pub returns : goal.returns
returns g c = writes_all c.args.new.now c.loop-index.index (search rules) c.loop-index.invariant.written
