use Rattle.std.proofs.Common.{length}
use Rattle.der_text.specs.Printed.{Prints}
use Rattle.der_text.proofs.Looks.{PartsSoFar}
use Rattle.der_text.proofs.parts.write_octets.Given as goal

abbrev pub invariant-loop-rest : goal.invariant-loop-rest
invariant-loop-rest l =
    Prints l.initial.out.items l.out.items l.octets l.rest
    × PartsSoFar l.text l.indent l.initial.out.items l.out.items l.octets l.rest

abbrev pub decreases-loop-rest : goal.decreases-loop-rest
decreases-loop-rest l = length l.rest
