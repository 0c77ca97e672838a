use Rattle.std.proofs.Common.{length}
use Rattle.der_schema.proofs.OfType.{Searched}
use Rattle.der_schema.specs.Known.{SameLetters}
use Rattle.der_schema.proofs.known.first_with_letters.Given as goal

-- none of the types before has these letters
abbrev pub invariant-loop-one : goal.invariant-loop-one
invariant-loop-one l = Searched (λ k. SameLetters k.name.now l.fn.name) l.fn.known l.ahead

abbrev pub decreases-loop-one : goal.decreases-loop-one
decreases-loop-one l = length l.ahead
