use Rattle.std.proofs.Common.{length}
use Rattle.der_extensions.proofs.ListLaws.{Reaches}
use Rattle.der_extensions.proofs.list.read_items.Given as goal

-- the items so far
abbrev pub invariant-loop-items : goal.invariant-loop-items
invariant-loop-items g l = Reaches g.T.Item.field l.list l.items

abbrev pub decreases-loop-items : goal.decreases-loop-items
decreases-loop-items g l = length l.items.left.now
