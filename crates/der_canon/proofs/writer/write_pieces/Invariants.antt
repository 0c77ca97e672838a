use Rattle.std.proofs.Common.{◌≡◌, ◌+◌, ◌-◌, List, length}
use Rattle.der_elements.specs.Visits.{Visited}
use Rattle.der_canon.specs.Contents.{Contents, KeepsIn, WritesAll, no_contents}
use Rattle.der_canon.specs.Errors.{HasRead}
use Rattle.der_canon.specs.Pieces.{depth_of}
use Rattle.der_canon.specs.Strings.{HasString}
use Rattle.der_canon.specs.Writing.{HasWritten}
use Rattle.der_canon.proofs.writer.write_pieces.Given as goal

-- what was visited so far is written
abbrev pub invariant-pieces : goal.invariant-pieces
invariant-pieces l = (vs : List Visited) × (c : Contents) × HasRead l.octets vs l.pieces × (l.read ≡ length vs) × WritesAll (KeepsIn (length l.fn.out)) l.octets no_contents vs c
    × (c.string ≡ depth_of l.pieces.parts) × HasWritten c.around c.here l.writer l.out × (length l.out ≡ length l.fn.out)
    × HasString l.octets vs c l.string

abbrev pub decreases-pieces : goal.decreases-pieces
decreases-pieces l = length l.octets + 1 - l.read
