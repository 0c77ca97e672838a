use Rattle.std.proofs.Common.{◌≡◌, ◌++◌, List, ℕ, drop, Ok}
use Rattle.der_base.specs.Encoding.{encodings}
use Rattle.der_object.specs.View.{trees}
use Rattle.der_object.specs.Writing.{Wrote}
use Rattle.der_object.proofs.encode.+encode.Given as goal

-- the octets of the items in front of one were sent
abbrev pub invariant-send_items-loop-o : goal.invariant-send_items-loop-o
invariant-send_items-loop-o g l =
    record {
      done : (sent : List ℕ) × (encodings (trees l.items) ≡ sent ++ encodings (trees (drop l.o-index l.items)))
          × Wrote g.W.Write.contents l.initial.w l.w (Ok tt) sent;
    }
