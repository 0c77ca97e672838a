use Rattle.std.proofs.Common.{◌≤◌, length, take}
use Rattle.der_actions.specs.Differences.{WritesChanges}
use Rattle.der_actions.proofs.diff.write_changes.Given as goal

-- the changes from the old elements so far to the new ones that were passed are written
abbrev pub invariant-loop-index : goal.invariant-loop-index
invariant-loop-index g l = record {
  within : l.passed ≤ length l.new;
  written : WritesChanges l.options (take l.index l.old) (take l.passed l.new) (g.W.Write.contents l.fn.out) (g.W.Write.contents l.out);
}
