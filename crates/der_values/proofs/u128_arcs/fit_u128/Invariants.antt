use Rattle.std.proofs.Common.{◌≡◌, length}
use Rattle.std.specs.List.{list_all}
use Rattle.der_base.specs.Arcs.{subidentifiers}
use Rattle.der_values.specs.ArcNumbers.{AreEnded, fits_u128}
use Rattle.der_values.proofs.u128_arcs.fit_u128.Given as goal

-- what is left decides
abbrev pub invariant-loop-groups : goal.invariant-loop-groups
invariant-loop-groups l = record {
  ended : AreEnded l.left;
  decides : list_all fits_u128 (subidentifiers l.left) ≡ list_all fits_u128 (subidentifiers l.octets);
}

abbrev pub decreases-loop-groups : goal.decreases-loop-groups
decreases-loop-groups l = length (subidentifiers l.left)
