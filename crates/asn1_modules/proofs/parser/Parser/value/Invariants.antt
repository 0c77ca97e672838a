use Rattle.asn1_modules.specs.Progress.{NeverBack}
use Rattle.asn1_modules.proofs.parser.Parser.value.Given as goal

abbrev pub invariant-loop-arc : goal.invariant-loop-arc
invariant-loop-arc l = NeverBack l.fn.self.cursor l.self.cursor

abbrev pub decreases-loop-arc : goal.decreases-loop-arc
decreases-loop-arc l = l.arcs.left
