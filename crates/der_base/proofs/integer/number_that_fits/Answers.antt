use Rattle.std.proofs.Common.{◌+◌, ◌*◌, drop, get_or, suc, ap, arith}
use Rattle.std.proofs.Math.Seq.{drop-cons}
use Rattle.der_base.specs.Octets.{number_from}
use Rattle.der_base.proofs.Octets.ShortestLengths.{number_grows}
use Rattle.der_base.proofs.integer.number_that_fits.Goals as goal

pub returns-then-n : goal.returns-then-n
returns-then-n c =
    let i = c.loop-b.b-index in
    let bs = c.args.octets.now in
    let e = ap (number_from c.loop-b.n) (drop-cons bs i 0 (omega arith)) in
    let g = number_grows (c.loop-b.n * 256 + get_or bs i 0) (drop (suc i) bs) in
    omega (arith, e, g)
