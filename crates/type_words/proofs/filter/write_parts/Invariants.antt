use Rattle.std.proofs.Common.{take}
use Rattle.std.specs.Fmt.{HasWritten, IsPlainFormatter}
use Rattle.type_words.specs.Filters.{filter_text}
use Rattle.type_words.proofs.filter.write_parts.Given as goal

-- what is before was written
abbrev pub invariant-loop-part : goal.invariant-loop-part
invariant-loop-part g l = record {
  done : IsPlainFormatter l.fn.f → HasWritten g.W.Write.write_str_gives l.fn.f (filter_text (take l.part-index l.parts)) l.f;
}
