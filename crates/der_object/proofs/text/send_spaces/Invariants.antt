use Rattle.std.proofs.Common.{◌-◌, ◌≤◌, Ok}
use Rattle.der_base.specs.Pretty.{spaces}
use Rattle.der_object.specs.Writing.{Wrote}
use Rattle.der_object.proofs.text.send_spaces.Given as goal

-- the others were sent
abbrev pub invariant-loop-left : goal.invariant-loop-left
invariant-loop-left g l = record {
  within : l.left ≤ l.count;
  sent : Wrote g.W.Write.contents l.initial.w l.w (Ok tt) (spaces (l.count - l.left));
}

abbrev pub decreases-loop-left : goal.decreases-loop-left
decreases-loop-left g l = l.left
