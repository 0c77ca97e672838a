use Rattle.std.proofs.Common.{◌≡◌, ◌+◌, ◌*◌, ◌-◌, ◌++◌, List, ℕ, length}
use Rattle.der_base.specs.Inner.Framed.{AreElements}
use Rattle.der_base.proofs.content.+framing.Given as goal

abbrev pub decreases-read_content : goal.decreases-read_content
decreases-read_content l = 2 * l.budget + 1

abbrev pub decreases-read_to_end_marker : goal.decreases-read_to_end_marker
decreases-read_to_end_marker l = 2 * l.budget

-- what was read so far is elements
abbrev pub invariant-read_to_end_marker-elements : goal.invariant-read_to_end_marker-elements
invariant-read_to_end_marker-elements l = (u : List ℕ) × AreElements u (l.budget - 1) × (l.i ≡ u ++ l.rest)

abbrev pub decreases-read_to_end_marker-elements : goal.decreases-read_to_end_marker-elements
decreases-read_to_end_marker-elements l = length l.rest
