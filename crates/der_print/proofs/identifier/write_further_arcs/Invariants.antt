use Rattle.std.proofs.Common.{◌≡◌, ◌++◌, List, ℕ}
use Rattle.std.specs.Fmt.{HasWritten, IsPlainFormatter}
use Rattle.der_base.specs.Pretty.{pointed}
use Rattle.der_values.specs.Identifiers.{u128_arcs_left}
use Rattle.der_print.proofs.identifier.write_further_arcs.Given as goal

-- the arcs in front of those that are left were written
abbrev pub invariant-loop-arc : goal.invariant-loop-arc
invariant-loop-arc g l = record {
  done : IsPlainFormatter l.fn.f → (sent : List ℕ) × (pointed (u128_arcs_left l.fn.arcs) ≡ sent ++ pointed (u128_arcs_left l.arc-iterator)) × HasWritten g.W.Write.write_str_gives l.fn.f sent l.f;
}
