use Rattle.std.proofs.Common.{◌≡◌, ◌+◌, ◌++◌, List, ℕ, length}
use Rattle.std.specs.Prelude.{map}
use Rattle.std.specs.Fmt.{HasWritten, IsPlainFormatter}
use Rattle.std.specs.List.{concat}
use Rattle.der_print.specs.Pieces.{pieces_left}
use Rattle.der_print.specs.Quotes.{piece_text}
use Rattle.der_print.proofs.text.write_pieces.Given as goal

-- the texts in front of those that are left were written
abbrev pub invariant-loop-piece : goal.invariant-loop-piece
invariant-loop-piece g l = record {
  done : IsPlainFormatter l.fn.f → (sent : List (List ℕ)) × (map piece_text (pieces_left l.characters) ≡ sent ++ map piece_text (pieces_left l.rest)) × (length sent + l.left ≡ l.most)
      × HasWritten g.W.Write.write_str_gives l.fn.f (concat sent) l.f;
}

abbrev pub decreases-loop-piece : goal.decreases-loop-piece
decreases-loop-piece g l = length (pieces_left l.rest)
