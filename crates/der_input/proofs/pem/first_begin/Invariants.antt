use Rattle.std.proofs.Common.{◌≡◌, ℕ, ◌-◌, ◌<◌, ◌≤◌, false, length}
use Rattle.der_input.specs.Blocks.{begins_block}
use Rattle.der_input.proofs.pem.first_begin.Given as goal

abbrev pub invariant-occurrences : goal.invariant-occurrences
invariant-occurrences l = record {
  within : l.from ≤ length l.text;
  none : (k : ℕ) → k < l.from → begins_block l.text k ≡ false;
}

abbrev pub decreases-occurrences : goal.decreases-occurrences
decreases-occurrences l = length l.text - l.from
