use Rattle.std.proofs.Common.{drop}
use Rattle.der_base.proofs.Oids.Arcs.{ReadSoFar}
use Rattle.der_base.proofs.oid.split_subidentifier.Given as goal

abbrev pub invariant-loop-index : goal.invariant-loop-index
invariant-loop-index l = ReadSoFar l.octets (drop l.index l.octets) l.index l.number
