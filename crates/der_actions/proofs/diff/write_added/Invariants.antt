use Rattle.std.proofs.Common.{[], take}
use Rattle.der_actions.specs.Differences.{WritesChanges}
use Rattle.der_actions.proofs.diff.write_added.Given as goal

-- the elements so far are written
abbrev pub invariant-loop-index : goal.invariant-loop-index
invariant-loop-index g l = record { written : WritesChanges l.options [] (take l.index l.new) (g.W.Write.contents l.fn.out) (g.W.Write.contents l.out) }
