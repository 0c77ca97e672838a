use Rattle.std.proofs.Common.{◌≡◌, ◌<◌, ◌^◌, drop}
use Rattle.der_base.specs.Octets.{groups_value}
use Rattle.der_values.proofs.arcs.number_of.Given as goal

-- what is left decides
abbrev pub invariant-loop-octet : goal.invariant-loop-octet
invariant-loop-octet l = (groups_value l.number (drop l.octet-index l.groups) ≡ groups_value 0 l.groups) × (l.number < 2 ^ 128)
