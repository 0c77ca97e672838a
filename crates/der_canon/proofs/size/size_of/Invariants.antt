use Rattle.std.proofs.Common.{◌≡◌, ◌+◌, ◌-◌, List, length}
use Rattle.der_elements.specs.Visits.{Visited}
use Rattle.der_canon.specs.Errors.{HasRead}
use Rattle.der_canon.specs.Pieces.{depth_of}
use Rattle.der_canon.proofs.Sizings.{Counts}
use Rattle.der_canon.proofs.size.size_of.Given as goal

-- what was visited so far is counted, if it can be
abbrev pub invariant-pieces : goal.invariant-pieces
invariant-pieces l = (vs : List Visited) × HasRead l.octets vs l.pieces × (l.read ≡ length vs) × Counts l.octets vs (depth_of l.pieces.parts) l.sizes l.fits

abbrev pub decreases-pieces : goal.decreases-pieces
decreases-pieces l = length l.octets + 1 - l.read
