use Rattle.std.proofs.Common.{take}
use Rattle.c_values.specs.Texts.{PutsText}
use Rattle.c_values.proofs.text.put_text.Given as goal

-- the octets so far were put
abbrev pub invariant-loop-octet : goal.invariant-loop-octet
invariant-loop-octet l = PutsText l.fn.room l.fn.at (take l.octet-index l.text) l.room l.end
