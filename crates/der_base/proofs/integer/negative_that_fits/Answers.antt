use Rattle.std.proofs.Common.{◌+◌, ◌-◌, ◌*◌, drop, get_or, suc, ap, arith}
use Rattle.std.proofs.Math.Seq.{drop-cons}
use Rattle.std.proofs.lemmas.Int.{ints}
use Rattle.der_base.specs.Octets.{number_from}
use Rattle.der_base.proofs.AllByRecursion.{Each}
use Rattle.der_base.proofs.Octets.MinimalIntegers.{turned}
use Rattle.der_base.proofs.Octets.Shortest.{IsOctet}
use Rattle.der_base.proofs.Octets.ShortestLengths.{bytes_from, number_grows}
use Rattle.der_base.proofs.Octets.SignBit.{turned_value}
use Rattle.der_base.proofs.integer.negative_that_fits.Goals as goal

pub loop-b-init : goal.loop-b-init
loop-b-init c =
    let w = c.args.octets.now in
    let are : Each IsOctet w = bytes_from w (λ k. omega (arith, c.type_inv.octets k)) in
    (turned_value w are c.requires, omega arith)

pub returns-then-n : goal.returns-then-n
returns-then-n c =
    let i = c.loop-b.b-index in
    let bs = c.args.octets.now in
    let e = ap (λ w. number_from c.loop-b.n (turned w)) (drop-cons bs i 0 (omega arith)) in
    let g = number_grows (c.loop-b.n * 256 + (255 - get_or bs i 0)) (turned (drop (suc i) bs)) in
    λ h. omega (arith, ints, e, g, h, c.loop-b.invariant.0, c.if-n.true)
