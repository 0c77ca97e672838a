use Rattle.std.proofs.Common.{◌≡◌, ℕ, ◌-◌, ◌≤◌, List, length}
use Rattle.std.specs.List.{AllByRecursion, concat}
use Rattle.der_writer.specs.SetsOf.{IsElement}
use Rattle.der_writer.proofs.Sorting.{IsSortedTo}
use Rattle.der_writer.proofs.set_of.sort_elements.Given as goal

-- the elements in front of the offset are sorted
abbrev pub invariant-loop-last : goal.invariant-loop-last
invariant-loop-last l = record {
  size : length l.content ≡ length l.initial.content;
  within : l.last ≤ length l.content;
  sorted : (ss : List (List ℕ)) → AllByRecursion IsElement ss → l.initial.content ≡ concat ss → IsSortedTo ss l.last l.content;
}

abbrev pub decreases-loop-last : goal.decreases-loop-last
decreases-loop-last l = length l.initial.content - l.last
