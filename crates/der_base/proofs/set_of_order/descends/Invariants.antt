use Rattle.std.proofs.Common.{◌≡◌, ℕ, ◌<◌}
use Rattle.der_base.specs.SetOfOrder.{padded}
use Rattle.der_base.proofs.set_of_order.descends.Given as goal

-- the octets so far are the same
abbrev pub invariant-loop-i : goal.invariant-loop-i
invariant-loop-i l = (k : ℕ) → k < l.i → padded l.first k ≡ padded l.second k
