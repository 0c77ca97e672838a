use Rattle.std.proofs.Common.{◌≡◌, ◌++◌, List, ℕ, Ok, length}
use Rattle.der_base.specs.Pretty.{spaced_hex}
use Rattle.der_object.specs.Writing.{Wrote}
use Rattle.der_object.proofs.hex.send_spaced.Given as goal

-- the octets in front of the rest were sent
abbrev pub invariant-loop-some : goal.invariant-loop-some
invariant-loop-some g l = record {
  done : (sent : List ℕ) × (spaced_hex l.octets ≡ sent ++ spaced_hex l.rest) × Wrote g.W.Write.contents l.initial.w l.w (Ok tt) sent;
}

abbrev pub decreases-loop-some : goal.decreases-loop-some
decreases-loop-some g l = length l.rest
