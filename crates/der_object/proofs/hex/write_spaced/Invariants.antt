use Rattle.std.proofs.Common.{drop}
use Rattle.der_base.specs.Pretty.{spaced_hex}
use Rattle.der_values.specs.Octets.Room.{PutsBefore}
use Rattle.der_object.proofs.hex.write_spaced.Given as goal

-- the octets from i on are written
abbrev pub invariant-loop-i : goal.invariant-loop-i
invariant-loop-i l = PutsBefore l.fn.out l.out l.end (spaced_hex (drop l.i l.octets)) l.begin
