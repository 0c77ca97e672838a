use Rattle.der_elements.specs.Ends.{octets_ahead}
use Rattle.der_show.proofs.LeafLaws.{HasShown}
use Rattle.der_show.proofs.field_lines.with_lines.Given as goal

-- what is said of the elements that were visited is written
abbrev pub invariant-elements : goal.invariant-elements
invariant-elements l = record {
  so : HasShown l.fn.now l.fn.schema l.fn.octets l.walk l.namer l.leaf l.fn.front l.written;
}

abbrev pub decreases-elements : goal.decreases-elements
decreases-elements l = octets_ahead l.walk
