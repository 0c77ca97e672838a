use Rattle.std.proofs.Common.{◌≡◌, ◌+◌, ◌<◌, ◌^◌, length, drop}
use Rattle.der_base.specs.Encoding.{encodings}
use Rattle.der_object.specs.View.{trees}
use Rattle.der_object.proofs.length.+length.Given as goal

-- the octets counted so far, and those of the items that are left
abbrev pub invariant-items_length-loop-o : goal.invariant-items_length-loop-o
invariant-items_length-loop-o l =
    record {
      counted : l.total + length (encodings (trees (drop l.o-index l.items))) ≡ length (encodings (trees l.items));
      fits : l.total < 2 ^ 64;
    }
