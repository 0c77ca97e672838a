use Rattle.std.proofs.Common.{◌≡◌, length}
use Rattle.der_schema.proofs.OfType.{Searched}
use Rattle.der_schema.proofs.known.first_named.Given as goal

-- none of the types before has this name
abbrev pub invariant-loop-one : goal.invariant-loop-one
invariant-loop-one l = Searched (λ k. k.name.now ≡ l.fn.name) l.fn.known l.ahead

abbrev pub decreases-loop-one : goal.decreases-loop-one
decreases-loop-one l = length l.ahead
