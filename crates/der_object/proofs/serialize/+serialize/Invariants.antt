use Rattle.std.proofs.Common.{drop}
use Rattle.der_base.specs.Encoding.{encodings}
use Rattle.der_object.specs.View.{trees}
use Rattle.der_values.specs.Octets.Room.{PutsBefore}
use Rattle.der_object.proofs.serialize.+serialize.Given as goal

-- the items from i on are written
abbrev pub invariant-write_items-loop-i : goal.invariant-write_items-loop-i
invariant-write_items-loop-i l = PutsBefore l.fn.out l.out l.end (encodings (trees (drop l.i l.items))) l.begin
