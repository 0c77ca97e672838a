use Rattle.std.proofs.Common.{◌≡◌, false, length}
use Rattle.der_base.proofs.Leaves.Texts.{pairs_match}
use Rattle.der_base.proofs.text.is_utf16.Given as goal

abbrev pub invariant-loop-rest : goal.invariant-loop-rest
invariant-loop-rest l = pairs_match false l.content ≡ pairs_match l.expects_low l.rest

abbrev pub decreases-loop-rest : goal.decreases-loop-rest
decreases-loop-rest l = length l.rest
