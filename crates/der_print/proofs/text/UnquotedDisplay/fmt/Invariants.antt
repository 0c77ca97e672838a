use Rattle.std.proofs.Common.{◌≡◌, ◌++◌, List, ℕ, length}
use Rattle.std.specs.Prelude.{map}
use Rattle.std.specs.Fmt.{HasWritten, IsPlainFormatter}
use Rattle.std.specs.List.{concat}
use Rattle.der_print.specs.Pieces.{pieces_left}
use Rattle.der_print.specs.Quotes.{plain_text, unquoted_text}
use Rattle.der_print.proofs.text.UnquotedDisplay.fmt.Given as goal

-- the characters in front of those that are left were written
abbrev pub invariant-loop-piece : goal.invariant-loop-piece
invariant-loop-piece g l = record {
  done : IsPlainFormatter l.fn.f → (sent : List ℕ) × (unquoted_text l.self.number l.self.octets.now ≡ sent ++ concat (map plain_text (pieces_left l.rest)))
      × HasWritten g.W.Write.write_str_gives l.fn.f sent l.f;
}

abbrev pub decreases-loop-piece : goal.decreases-loop-piece
decreases-loop-piece g l = length (pieces_left l.rest)
