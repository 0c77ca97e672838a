use Rattle.std.proofs.Common.{take}
use Rattle.std.specs.Fmt.{HasWritten, IsPlainFormatter}
use Rattle.type_words.specs.Filters.{assertion_text}
use Rattle.type_words.proofs.filter.write_assertion.Given as goal

-- what is before was written
abbrev pub invariant-loop-octet : goal.invariant-loop-octet
invariant-loop-octet g l = record {
  done : IsPlainFormatter l.fn.f → HasWritten g.W.Write.write_str_gives l.fn.f (assertion_text (take l.octet-index l.octets)) l.f;
}
