use Rattle.std.proofs.Common.{◌≡◌, ◌+◌, List, length}
use Rattle.der_elements.specs.Ends.{octets_ahead}
use Rattle.der_elements.specs.Visits.{Visited}
use Rattle.der_elements.specs.Walked.{HasVisited}
use Rattle.der_schema.specs.Known.{all_extras}
use Rattle.der_schema.proofs.sign.content_at.Given as goal

-- so many elements were visited
abbrev pub invariant-elements : goal.invariant-elements
invariant-elements l =
    (vs : List Visited) × HasVisited all_extras l.fn.rules l.fn.input l.walk vs × (length vs + l.before ≡ l.fn.number)

abbrev pub decreases-elements : goal.decreases-elements
decreases-elements l = octets_ahead l.walk
