use Rattle.std.proofs.Common.{◌++◌, List, ℕ, length}
use Rattle.std.specs.Io.KnownBytes.{Appends}
use Rattle.der_actions.specs.Pem.{InLines}
use Rattle.der_actions.proofs.canon.write_lines.Given as goal

-- the lines in front of those of the rest are written
abbrev pub invariant-loop-rest : goal.invariant-loop-rest
invariant-loop-rest g l = record {
  written : (sent : List ℕ) × Appends (g.W.Write.contents l.fn.out) (g.W.Write.contents l.out) sent × ((lines : List ℕ) → InLines l.rest lines → InLines l.text (sent ++ lines));
}

abbrev pub decreases-loop-rest : goal.decreases-loop-rest
decreases-loop-rest g l = length l.rest
