use Rattle.std.proofs.Common.{◌≡◌, ℕ, ◌<◌, get_or, length}
use Rattle.der_base.specs.Octets.{number}
use Rattle.der_writer.proofs.fields.fewest_octets.Given as goal

abbrev pub invariant-loop-left : goal.invariant-loop-left
invariant-loop-left l = record {
  value : number l.left ≡ number l.given;
  are_octets : (k : ℕ) → get_or l.left k 0 < 256;
}

abbrev pub decreases-loop-left : goal.decreases-loop-left
decreases-loop-left l = length l.left
