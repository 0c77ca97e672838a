use Rattle.std.proofs.Common.{◌≡◌, length}
use Rattle.der_schema.specs.Meaning.{next_in}
use Rattle.der_schema.specs.Steps.{around, encoding_of}
use Rattle.der_schema.proofs.matching.next_of.Given as goal

abbrev pub invariant-loop-component : goal.invariant-loop-component
invariant-loop-component l =
    next_in l.ahead (encoding_of l.fn.known l.fn.element) (around l.fn.selected l.fn.known)
    ≡ next_in l.fn.components (encoding_of l.fn.known l.fn.element) (around l.fn.selected l.fn.known)

abbrev pub decreases-loop-component : goal.decreases-loop-component
decreases-loop-component l = length l.ahead
