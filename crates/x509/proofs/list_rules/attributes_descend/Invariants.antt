use Rattle.std.proofs.Common.{length}
use Rattle.x509.specs.Formats.{sequence, with_octets}
use Rattle.x509.specs.Rules.{DescendsNext}
use Rattle.x509.proofs.WalkLaws.{IsStill}
use Rattle.x509.proofs.list_rules.attributes_descend.Given as goal

-- what is asked is asked of the octets that are left
abbrev pub invariant-loop-attribute : goal.invariant-loop-attribute
invariant-loop-attribute l = IsStill (with_octets sequence) (λ a rest. DescendsNext a.0 rest) l.fn.attributes l.left

abbrev pub decreases-loop-attribute : goal.decreases-loop-attribute
decreases-loop-attribute l = length l.left
