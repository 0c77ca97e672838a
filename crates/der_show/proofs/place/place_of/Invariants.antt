use Rattle.der_elements.specs.Ends.{octets_ahead}
use Rattle.der_schema.specs.Meaning.{root_of}
use Rattle.der_show.specs.Around.{around_of}
use Rattle.der_show.proofs.PlaceLaws.{HasLooked}
use Rattle.der_show.proofs.place.place_of.Given as goal

-- none of the elements that were visited begins at the offset
abbrev pub invariant-elements : goal.invariant-elements
invariant-elements l = record {
  so : HasLooked (root_of l.fn.schema) l.fn.octets l.fn.offset l.walk l.namer l.path.steps.items (around_of l.around);
}

abbrev pub decreases-elements : goal.decreases-elements
decreases-elements l = octets_ahead l.walk
