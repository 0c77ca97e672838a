use Rattle.asn1_modules.specs.Progress.{NeverBack}
use Rattle.asn1_modules.proofs.parser.Parser.reference.Given as goal

abbrev pub invariant-loop-module : goal.invariant-loop-module
invariant-loop-module l = NeverBack l.fn.self.cursor l.self.cursor

abbrev pub decreases-loop-module : goal.decreases-loop-module
decreases-loop-module l = l.self.cursor.left
