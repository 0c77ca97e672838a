use Rattle.std.proofs.Common.{◌≡◌, ◌≤◌, length, map, take}
use Rattle.x509.specs.Rules.{AreIdentifiers}
use Rattle.x509.proofs.repetition.repeats.Given as goal

-- the identifiers of the items that were passed are in the first slots
abbrev pub invariant-loop-item : goal.invariant-loop-item
invariant-loop-item l = (l.count ≤ length l.slots) × (length l.slots ≡ length l.fn.slots)
    × AreIdentifiers l.fn.items (map (λ t. t.now) (take l.count l.slots)) l.left

abbrev pub decreases-loop-item : goal.decreases-loop-item
decreases-loop-item l = length l.left
