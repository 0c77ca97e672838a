use Rattle.asn1_modules.specs.Progress.{NeverBack}
use Rattle.asn1_modules.proofs.parser.Parser.read_type.Given as goal

abbrev pub invariant-loop-next : goal.invariant-loop-next
invariant-loop-next l = NeverBack l.fn.self.cursor l.self.cursor

abbrev pub decreases-loop-next : goal.decreases-loop-next
decreases-loop-next l = l.self.cursor.left
