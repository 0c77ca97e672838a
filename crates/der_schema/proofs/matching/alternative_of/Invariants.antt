use Rattle.std.proofs.Common.{◌≡◌, length}
use Rattle.der_schema.specs.Meaning.{alternative_in, marked_of}
use Rattle.der_schema.specs.Steps.{encoding_of}
use Rattle.der_schema.proofs.matching.alternative_of.Given as goal

abbrev pub invariant-loop-alternative : goal.invariant-loop-alternative
invariant-loop-alternative l =
    alternative_in l.ahead (encoding_of l.fn.known l.fn.element) (marked_of l.fn.choice)
    ≡ alternative_in l.fn.alternatives (encoding_of l.fn.known l.fn.element) (marked_of l.fn.choice)

abbrev pub decreases-loop-alternative : goal.decreases-loop-alternative
decreases-loop-alternative l = length l.ahead
