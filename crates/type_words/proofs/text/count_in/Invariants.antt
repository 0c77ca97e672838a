use Rattle.der_elements.specs.Ends.{octets_ahead}
use Rattle.type_words.proofs.CountLaws.{HasCounted}
use Rattle.type_words.proofs.text.count_in.Given as goal

-- the elements so far were counted
abbrev pub invariant-elements : goal.invariant-elements
invariant-elements l = record { so : HasCounted l.fn.octets l.walk l.count }

abbrev pub decreases-elements : goal.decreases-elements
decreases-elements l = octets_ahead l.walk
