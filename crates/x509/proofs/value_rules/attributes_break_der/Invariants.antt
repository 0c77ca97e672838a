use Rattle.std.proofs.Common.{length}
use Rattle.x509.specs.Formats.{sequence}
use Rattle.x509.specs.Rules.{ValueBreaksDer}
use Rattle.x509.proofs.WalkLaws.{IsStill}
use Rattle.x509.proofs.value_rules.attributes_break_der.Given as goal

-- what is asked is asked of the octets that are left
abbrev pub invariant-loop-attribute : goal.invariant-loop-attribute
invariant-loop-attribute l = IsStill sequence (λ w _. ValueBreaksDer w) l.fn.attributes l.left

abbrev pub decreases-loop-attribute : goal.decreases-loop-attribute
decreases-loop-attribute l = length l.left
