use Rattle.std.proofs.Common.{◌+◌, ◌*◌, ◌%◌, drop, get_or, suc, ap, arith}
use Rattle.std.proofs.Math.Seq.{drop-cons}
use Rattle.der_base.specs.Octets.{groups_value}
use Rattle.der_values.proofs.WideArcs.{groups_grow}
use Rattle.der_values.proofs.arcs.number_of.Goals as goal

pub returns-then-number : goal.returns-then-number
returns-then-number c =
    let i = c.loop-octet.octet-index in
    let w = c.args.groups.now in
    let e = ap (groups_value c.loop-octet.number) (drop-cons w i 0 (omega arith)) in
    let g = groups_grow (c.loop-octet.number * 128 + get_or w i 0 % 128) (drop (suc i) w) in
    omega (arith, e, g, c.loop-octet.invariant.0)
