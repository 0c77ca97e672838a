use Rattle.std.proofs.Common.{◌≡◌, true, drop, Some}
use Rattle.std.specs.Prelude.{◌↔◌}
use Rattle.der_base.specs.Arcs.{arcs}
use Rattle.der_values.proofs.oid.have_further_arcs.Given as goal

-- what is left decides
abbrev pub invariant-loop-arc : goal.invariant-loop-arc
invariant-loop-arc l = (arcs true l.fn.octets ≡ Some l.wanted) ↔ (arcs true l.left ≡ Some (drop l.arc-index l.wanted))
