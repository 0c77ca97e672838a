use Rattle.asn1_modules.specs.Progress.{NeverBack}
use Rattle.asn1_modules.proofs.parser.Parser.read_file.Given as goal

abbrev pub invariant-loop-self : goal.invariant-loop-self
invariant-loop-self l = NeverBack l.fn.self.cursor l.self.cursor

abbrev pub decreases-loop-self : goal.decreases-loop-self
decreases-loop-self l = l.self.cursor.left
