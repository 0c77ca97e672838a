use Rattle.std.proofs.Common.{◌≡◌, ℕ, ◌-◌, ◌≤◌, List, ◌++◌, length}
use Rattle.std.specs.List.{AllByRecursion, concat}
use Rattle.der_writer.specs.SetsOf.{IsElement}
use Rattle.der_writer.proofs.Sorting.{Splits}
use Rattle.der_writer.proofs.set_of.place_of.Given as goal

-- of the elements none in front of the place is greater
abbrev pub invariant-loop-place : goal.invariant-loop-place
invariant-loop-place l = record {
  within : l.place ≤ l.last;
  split : (ts : List (List ℕ)) (s : List ℕ) → AllByRecursion IsElement ts → l.content ≡ concat ts ++ s → l.last ≡ length (concat ts)
      → Splits ts s l.place;
}

abbrev pub decreases-loop-place : goal.decreases-loop-place
decreases-loop-place l = l.last - l.place
