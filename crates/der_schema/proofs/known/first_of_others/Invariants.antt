use Rattle.std.proofs.Common.{length}
use Rattle.der_schema.specs.Known.{IsKnownType}
use Rattle.der_schema.specs.Meaning.{all_types}
use Rattle.der_schema.proofs.OfType.{Searched}
use Rattle.der_schema.proofs.known.first_of_others.Given as goal

-- the input is told to be of none of the types before
abbrev pub invariant-loop-one : goal.invariant-loop-one
invariant-loop-one l = Searched (IsKnownType (all_types l.fn.types) l.fn.rules l.fn.input) l.fn.known l.ahead

abbrev pub decreases-loop-one : goal.decreases-loop-one
decreases-loop-one l = length l.ahead
