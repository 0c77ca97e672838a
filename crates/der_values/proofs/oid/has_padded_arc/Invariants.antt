use Rattle.std.proofs.Common.{◌≡◌, true, drop}
use Rattle.der_values.proofs.PaddedArcs.{unpadded_from}
use Rattle.der_values.proofs.oid.has_padded_arc.Given as goal

-- what is left decides
abbrev pub invariant-loop-octet : goal.invariant-loop-octet
invariant-loop-octet l = unpadded_from l.begins (drop l.octet-index l.octets) ≡ unpadded_from true l.octets
