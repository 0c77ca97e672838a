use Rattle.std.proofs.Common.{◌≡◌}
use Rattle.der_elements.specs.Ends.{octets_ahead}
use Rattle.der_actions.proofs.Looking.{HasLooked}
use Rattle.der_actions.proofs.get.write_first.Given as goal

-- the element at the place wasn't visited yet, and nothing is written
abbrev pub invariant-elements : goal.invariant-elements
invariant-elements g l = record {
  looked : HasLooked l.options l.octets l.walk l.trail l.fields;
  same : g.W.Write.contents l.out ≡ g.W.Write.contents l.fn.out;
}

abbrev pub decreases-elements : goal.decreases-elements
decreases-elements g l = octets_ahead l.walk
