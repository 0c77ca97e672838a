use Rattle.asn1_modules.specs.Progress.{NeverBack}
use Rattle.asn1_modules.proofs.parser.cursor.Cursor.value.Given as goal

abbrev pub invariant-loop-kind : goal.invariant-loop-kind
invariant-loop-kind l = NeverBack l.fn.self l.self

abbrev pub decreases-loop-kind : goal.decreases-loop-kind
decreases-loop-kind l = l.self.left
