use Rattle.std.proofs.Common.{length}
use Rattle.x509_value_rules.proofs.SchemeLaws.{Follows}
use Rattle.x509_value_rules.proofs.names.scheme_follows.Given as goal

-- what is asked is asked of the text that is left
abbrev pub invariant-loop-first : goal.invariant-loop-first
invariant-loop-first l = Follows l.left l.fn.text

abbrev pub decreases-loop-first : goal.decreases-loop-first
decreases-loop-first l = length l.left
