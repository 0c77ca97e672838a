use Rattle.asn1_modules.specs.Progress.{Advances}
use Rattle.asn1_modules.proofs.parser.cursor.Cursor.macro_definition.Given as goal

abbrev pub invariant-loop-token : goal.invariant-loop-token
invariant-loop-token l = Advances l.fn.self l.self

abbrev pub decreases-loop-token : goal.decreases-loop-token
decreases-loop-token l = l.self.left
