use Rattle.std.proofs.Common.{◌≡◌, ◌++◌, List, ℕ, length}
use Rattle.std.specs.Fmt.{HasWritten, IsPlainFormatter}
use Rattle.hex.specs.Hex.{encode_lower}
use Rattle.der_print.proofs.octets.write_digits.Given as goal

-- the octets in front of those that are left were written
abbrev pub invariant-loop-rest : goal.invariant-loop-rest
invariant-loop-rest g l = record {
  done : IsPlainFormatter l.fn.f → (sent : List ℕ) × (encode_lower l.fn.octets ≡ sent ++ encode_lower l.rest) × HasWritten g.W.Write.write_str_gives l.fn.f sent l.f;
}

abbrev pub decreases-loop-rest : goal.decreases-loop-rest
decreases-loop-rest g l = length l.rest
