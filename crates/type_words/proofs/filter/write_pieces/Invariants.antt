use Rattle.std.proofs.Common.{take}
use Rattle.std.specs.Fmt.{HasWritten, IsPlainFormatter}
use Rattle.type_words.specs.Filters.{pieces_text}
use Rattle.type_words.proofs.filter.write_pieces.Given as goal

-- what is before was written
abbrev pub invariant-loop-piece : goal.invariant-loop-piece
invariant-loop-piece g l = record {
  done : IsPlainFormatter l.fn.f → HasWritten g.W.Write.write_str_gives l.fn.f (pieces_text (take l.piece-index l.pieces)) l.f;
}
