use Rattle.std.proofs.Common.{◌≡◌, take}
use Rattle.der_base.proofs.Octets.TagNumbers.{open_groups}
use Rattle.der_base.proofs.identifier.read_long_form.Given as goal

abbrev pub invariant-loop-index : goal.invariant-loop-index
invariant-loop-index l = take l.index l.i ≡ open_groups l.number
