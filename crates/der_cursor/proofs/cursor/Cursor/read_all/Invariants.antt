use Rattle.std.proofs.Common.{length}
use Rattle.der_cursor.specs.Runs.{Calls}
use Rattle.der_cursor.proofs.cursor.Cursor.read_all.Given as goal

-- the calls so far
abbrev pub invariant-loop-cursor : goal.invariant-loop-cursor
invariant-loop-cursor g l =
    goal.F-IsAlwaysCallable g l.read
    × Calls (λ f c r d h. goal.F-step g f l.fn.alloc c r d h) l.fn.read l.fn.self l.values.items l.read l.cursor

abbrev pub decreases-loop-cursor : goal.decreases-loop-cursor
decreases-loop-cursor g l = length l.cursor.left.now
