use Rattle.std.proofs.Common.{◌≡◌, ◌++◌, List, ℕ}
use Rattle.der_base.specs.Pretty.{pointed}
use Rattle.der_values.specs.Identifiers.{u128_arcs_left}
use Rattle.c_values.specs.Texts.{PutsText}
use Rattle.c_values.proofs.text.put_further_arcs.Given as goal

-- the arcs in front of those that are left were put
abbrev pub invariant-loop-arc : goal.invariant-loop-arc
invariant-loop-arc l = (sent : List ℕ) × (pointed (u128_arcs_left l.fn.arcs) ≡ sent ++ pointed (u128_arcs_left l.arc-iterator)) × PutsText l.fn.room l.fn.at sent l.room l.end
