use Rattle.std.proofs.Common.{◌≤◌, ◌-◌, map, take}
use Rattle.der_elements.specs.Walked.{visited_of}
use Rattle.der_schema.specs.Meaning.{root_of}
use Rattle.der_schema.specs.Named.{HasNamed}
use Rattle.der_schema.proofs.beginning.Beginning.may_be.Given as goal

-- the elements before have names
abbrev pub invariant-elements : goal.invariant-elements
invariant-elements l =
    (l.index ≤ l.fn.self.len)
    × HasNamed (root_of l.fn.schema) l.fn.input (map visited_of (take l.index l.fn.self.elements)) l.namer

abbrev pub decreases-elements : goal.decreases-elements
decreases-elements l = l.fn.self.len - l.index
