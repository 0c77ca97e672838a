use Rattle.std.proofs.Common.{ℕ, List, length}
use Rattle.der_base.specs.ListSteps.{Calls}
use Rattle.der_combinators.proofs.ItemLaws.{IsCompared}
use Rattle.der_combinators.proofs.items.read_objects.Given as goal

-- the calls so far, and what the next item is compared with
abbrev pub invariant-loop-objects : goal.invariant-loop-objects
invariant-loop-objects g l =
    goal.F-IsAlwaysCallable g l.f
    × (ss : List (List ℕ)) × Calls (goal.F-step g) l.fn.f l.fn.content l.objects.items ss l.f l.input × IsCompared l.fn.rules l.fn.list ss l.before

abbrev pub decreases-loop-objects : goal.decreases-loop-objects
decreases-loop-objects g l = length l.input
