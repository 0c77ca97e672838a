use Rattle.std.specs.Fmt.{HasWritten, IsPlainFormatter}
use Rattle.type_words.specs.Lines.{columns}
use Rattle.type_words.proofs.text.write_columns.Given as goal

-- the columns so far were written
abbrev pub invariant-levels : goal.invariant-levels
invariant-levels g l = record {
  done : IsPlainFormatter l.fn.f → HasWritten g.W.Write.write_str_gives l.fn.f (columns l.counter) l.f;
}
