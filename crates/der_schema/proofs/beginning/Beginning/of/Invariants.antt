use Rattle.std.proofs.Common.{◌≡◌, ◌≤◌, ◌-◌, length, map, take}
use Rattle.std.specs.List.{All}
use Rattle.der_elements.specs.Walked.{HasVisited, visited_of}
use Rattle.der_schema.specs.Known.{all_extras}
use Rattle.der_schema.proofs.beginning.Beginning.of.Given as goal

-- the elements so far are those that were visited
abbrev pub invariant-elements : goal.invariant-elements
invariant-elements l =
    (l.len ≤ 4) × (length l.elements ≡ 4) × All (λ e. e.depth ≤ 100) (take l.len l.elements)
    × HasVisited all_extras l.fn.rules l.fn.input l.walk (map visited_of (take l.len l.elements))

abbrev pub decreases-elements : goal.decreases-elements
decreases-elements l = 4 - l.len
