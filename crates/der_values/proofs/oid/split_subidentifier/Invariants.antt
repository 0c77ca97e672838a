use Rattle.std.proofs.Common.{◌≡◌, ◌^◌, ◌<◌, ◌≤◌, true, drop}
use Rattle.der_base.specs.Arcs.{arcs, subidentifiers}
use Rattle.der_values.proofs.Subidentifiers.{numbers_after}
use Rattle.der_values.proofs.oid.split_subidentifier.Given as goal

-- what is left decides, after the octets of the first subidentifier that were read
abbrev pub invariant-loop-index : goal.invariant-loop-index
invariant-loop-index l = record {
  left : numbers_after l.index l.number (subidentifiers (drop l.index l.octets)) ≡ arcs true l.octets;
  few : l.index ≤ 9;
  small : l.number < 128 ^ l.index;
}
