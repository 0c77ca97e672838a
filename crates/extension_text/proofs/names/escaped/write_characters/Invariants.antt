use Rattle.std.proofs.Common.{◌≡◌, ◌++◌, List, ℕ, length, true}
use Rattle.std.specs.Fmt.{HasWritten, IsPlainFormatter}
use Rattle.der_print.specs.Pieces.{pieces_left}
use Rattle.extension_text.specs.Names.Escapes.{escaped}
use Rattle.extension_text.proofs.names.escaped.write_characters.Given as goal

-- the characters in front of those that are left were written
abbrev pub invariant-loop-piece : goal.invariant-loop-piece
invariant-loop-piece g l = record {
  done : IsPlainFormatter l.fn.f → (sent : List ℕ) × (escaped true (pieces_left l.fn.characters) ≡ sent ++ escaped l.first (pieces_left l.left))
      × HasWritten g.W.Write.write_str_gives l.fn.f sent l.f;
}

abbrev pub decreases-loop-piece : goal.decreases-loop-piece
decreases-loop-piece g l = length (pieces_left l.left)
