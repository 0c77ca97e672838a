use Rattle.std.proofs.Common.{◌≡◌, ◌++◌, take}
use Rattle.std.specs.List.{flat_map}
use Rattle.der_base.specs.Octets.{groups}
use Rattle.der_base.proofs.oid.push_subidentifiers.Given as goal

abbrev pub invariant-loop-value : goal.invariant-loop-value
invariant-loop-value l = l.octets.items ≡ l.fn.octets.items ++ flat_map groups (take l.value-index l.values)
