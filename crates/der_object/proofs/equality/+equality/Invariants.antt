use Rattle.std.proofs.Common.{◌≡◌, drop}
use Rattle.der_base.specs.TreeEquality.{same_nodes}
use Rattle.der_object.specs.View.{trees}
use Rattle.der_object.proofs.equality.+equality.Given as goal

-- the items before i are the same
abbrev pub invariant-same_items-loop-i : goal.invariant-same_items-loop-i
invariant-same_items-loop-i l = same_nodes (trees (drop l.i l.a)) (trees (drop l.i l.b)) ≡ same_nodes (trees l.a) (trees l.b)
