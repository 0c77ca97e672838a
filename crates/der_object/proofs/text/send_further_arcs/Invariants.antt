use Rattle.std.proofs.Common.{◌≡◌, ◌++◌, List, ℕ, Ok}
use Rattle.der_base.specs.Oids.{arcs_left}
use Rattle.der_base.specs.Pretty.{pointed}
use Rattle.der_object.specs.Writing.{Wrote}
use Rattle.der_object.proofs.text.send_further_arcs.Given as goal

-- the arcs in front of those that are left were sent
abbrev pub invariant-loop-arc : goal.invariant-loop-arc
invariant-loop-arc g l = record {
  done : (sent : List ℕ) × (pointed (arcs_left l.arcs) ≡ sent ++ pointed (arcs_left l.arc-iterator)) × Wrote g.W.Write.contents l.initial.w l.w (Ok tt) sent;
}
