use Rattle.std.proofs.Common.{◌≤◌, length}
use Rattle.der_elements.specs.Ends.{octets_ahead}
use Rattle.der_elements.specs.Walked.{KeepsVisited}
use Rattle.der_elements.proofs.walk.Walk.close_ended.Given as goal

abbrev pub invariant-ended : goal.invariant-ended
invariant-ended l = record { keeps : KeepsVisited l.fn.self l.self; ahead : octets_ahead l.self ≤ octets_ahead l.fn.self }

abbrev pub decreases-ended : goal.decreases-ended
decreases-ended l = length l.self.opened.items
