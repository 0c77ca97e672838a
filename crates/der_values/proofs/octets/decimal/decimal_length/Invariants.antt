use Rattle.std.proofs.Common.{◌≡◌, ◌+◌, decimal, length}
use Rattle.der_values.proofs.octets.decimal.decimal_length.Given as goal

-- the digits counted so far, one too many, and those of what is left of the number
abbrev pub invariant-loop-rest : goal.invariant-loop-rest
invariant-loop-rest l = l.count + length (decimal l.rest) ≡ length (decimal l.n) + 1

abbrev pub decreases-loop-rest : goal.decreases-loop-rest
decreases-loop-rest l = l.rest
