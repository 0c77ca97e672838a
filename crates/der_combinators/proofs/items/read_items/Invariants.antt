use Rattle.std.proofs.Common.{ℕ, List, length}
use Rattle.der_base.specs.ListSteps.{Calls}
use Rattle.der_combinators.proofs.ItemLaws.{IsCompared}
use Rattle.der_combinators.proofs.items.read_items.Given as goal

-- the calls so far, and what the next item is compared with
abbrev pub invariant-loop-values : goal.invariant-loop-values
invariant-loop-values g l =
    goal.F-IsAlwaysCallable g l.f
    × (ss : List (List ℕ)) × Calls (goal.F-step g) l.fn.f l.fn.content l.values.items ss l.f l.input × IsCompared l.fn.rules l.fn.list ss l.before

abbrev pub decreases-loop-values : goal.decreases-loop-values
decreases-loop-values g l = length l.input
