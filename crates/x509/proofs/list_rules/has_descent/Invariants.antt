use Rattle.std.proofs.Common.{length}
use Rattle.x509.specs.Formats.{set}
use Rattle.x509.specs.Rules.{AttributesDescend}
use Rattle.x509.proofs.WalkLaws.{IsStill}
use Rattle.x509.proofs.list_rules.has_descent.Given as goal

-- what is asked is asked of the octets that are left
abbrev pub invariant-loop-relative_name : goal.invariant-loop-relative_name
invariant-loop-relative_name l = IsStill set (λ w rest. AttributesDescend w) l.fn.name.octets.now l.left

abbrev pub decreases-loop-relative_name : goal.decreases-loop-relative_name
decreases-loop-relative_name l = length l.left
