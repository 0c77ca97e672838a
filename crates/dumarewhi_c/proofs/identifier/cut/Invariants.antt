use Rattle.std.proofs.Common.{take}
use Rattle.dumarewhi_c.proofs.Points.{HasNoPoint}
use Rattle.dumarewhi_c.proofs.identifier.cut.Given as goal

abbrev pub invariant-loop-at : goal.invariant-loop-at
invariant-loop-at l = HasNoPoint (take l.at l.text)
