use Rattle.std.proofs.Common.{ℕ, ◌-◌, ◌<◌, ◌≤◌, length}
use Rattle.memchr.specs.Find.{OccursAt}
use Rattle.der_input.proofs.search.find.Given as goal

abbrev pub invariant-places : goal.invariant-places
invariant-places l = record {
  within : l.from ≤ length l.text;
  none : (k : ℕ) → k < l.from → ¬ OccursAt l.text l.needle k;
}

abbrev pub decreases-places : goal.decreases-places
decreases-places l = length l.text - l.from
