use Rattle.std.proofs.Common.{◌≡◌, length}
use Rattle.der_schema.specs.Meaning.{member_in}
use Rattle.der_schema.specs.Steps.{around, encoding_of}
use Rattle.der_schema.proofs.matching.member_of.Given as goal

abbrev pub invariant-loop-component : goal.invariant-loop-component
invariant-loop-component l =
    member_in l.ahead (encoding_of l.fn.known l.fn.element) (around l.fn.selected l.fn.known)
    ≡ member_in l.fn.components (encoding_of l.fn.known l.fn.element) (around l.fn.selected l.fn.known)

abbrev pub decreases-loop-component : goal.decreases-loop-component
decreases-loop-component l = length l.ahead
