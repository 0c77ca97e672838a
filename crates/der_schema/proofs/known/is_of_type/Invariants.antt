use Rattle.std.proofs.Common.{List}
use Rattle.der_elements.specs.Ends.{octets_ahead}
use Rattle.der_elements.specs.Visits.{Visited}
use Rattle.der_elements.specs.Walked.{HasVisited}
use Rattle.der_schema.specs.Known.{all_extras}
use Rattle.der_schema.specs.Meaning.{root_of}
use Rattle.der_schema.specs.Named.{HasNamed}
use Rattle.der_schema.proofs.OfType.{AllNamed}
use Rattle.der_schema.proofs.known.is_of_type.Given as goal

-- the elements so far have names
abbrev pub invariant-elements : goal.invariant-elements
invariant-elements l =
    (vs : List Visited) × HasVisited all_extras l.fn.rules l.fn.input l.walk vs
    × HasNamed (root_of l.fn.schema) l.fn.input vs l.namer × AllNamed (root_of l.fn.schema) l.fn.input vs

abbrev pub decreases-elements : goal.decreases-elements
decreases-elements l = octets_ahead l.walk
