use Rattle.der_elements.specs.Ends.{octets_ahead}
use Rattle.der_actions.proofs.hint.likely_paths.Given as goal

abbrev pub decreases-elements : goal.decreases-elements
decreases-elements l = octets_ahead l.walk
