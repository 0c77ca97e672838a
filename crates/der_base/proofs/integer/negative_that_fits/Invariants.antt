use Rattle.std.proofs.Common.{◌≡◌, ◌<◌, ◌^◌, drop, negsuc}
use Rattle.der_base.specs.Octets.{integer_value, number_from}
use Rattle.der_base.proofs.Octets.MinimalIntegers.{turned}
use Rattle.der_base.proofs.integer.negative_that_fits.Given as goal

abbrev pub invariant-loop-b : goal.invariant-loop-b
invariant-loop-b l = (integer_value l.octets ≡ negsuc (number_from l.n (turned (drop l.b-index l.octets)))) × (l.n < 2 ^ 63)
