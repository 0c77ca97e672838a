use Rattle.std.proofs.Common.{take}
use Rattle.std.specs.List.{flat_map}
use Rattle.c_values.specs.Rooms.{ascii}
use Rattle.c_values.specs.Texts.{PutsText}
use Rattle.c_values.proofs.room.put_ascii.Given as goal

-- the octets so far were put
abbrev pub invariant-loop-octet : goal.invariant-loop-octet
invariant-loop-octet l = PutsText l.fn.room l.fn.at (flat_map ascii (take l.octet-index l.text)) l.room l.end
