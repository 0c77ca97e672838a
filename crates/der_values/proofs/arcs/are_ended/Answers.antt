use Rattle.std.proofs.Common.{◌<◌, length, arith}
use Rattle.std.proofs.lemmas.Bool.Decides.{nat_tests}
use Rattle.der_values.proofs.WideArcs.{decided_end}
use Rattle.der_values.proofs.arcs.are_ended.Goals as goal

pub returns : goal.returns
returns c =
    let some : 0 < length c.args.octets.now = grind (arith, nat_tests, c.if-is_empty.false) in
    decided_end c.args.octets.now c.ends_subidentifier.result some c.ends_subidentifier.ensures
