use Rattle.std.proofs.Common.{◌≡◌, ◌<◌, ◌^◌, drop}
use Rattle.der_base.specs.Octets.{number, number_from}
use Rattle.der_base.proofs.integer.number_that_fits.Given as goal

abbrev pub invariant-loop-b : goal.invariant-loop-b
invariant-loop-b l = (number_from l.n (drop l.b-index l.octets) ≡ number l.octets) × (l.n < 2 ^ 64)
