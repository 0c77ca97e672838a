use Rattle.std.proofs.Common.{take}
use Rattle.std.specs.List.{flat_map}
use Rattle.der_base.specs.Octets.{groups}
use Rattle.der_writer.specs.Written.{Puts}
use Rattle.der_writer.proofs.writer.Writer.put_subidentifiers.Given as goal

-- those before the index are put
abbrev pub invariant-loop-value : goal.invariant-loop-value
invariant-loop-value l = Puts (flat_map groups (take l.value-index l.values)) l.fn.self l.self
