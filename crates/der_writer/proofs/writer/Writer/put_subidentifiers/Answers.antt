use Rattle.std.proofs.Common.{◌≡◌, ◌+◌, ◌++◌, get_or, take, arith}
use Rattle.std.proofs.lemmas.Grind.{common_steps}
use Rattle.std.specs.List.{flat_map}
use Rattle.der_base.specs.Octets.{groups}
use Rattle.der_writer.proofs.Composing.{puts_both, puts_same}
use Rattle.der_writer.proofs.writer.Writer.put_subidentifiers.Goals as goal

pub loop-value-preserved : goal.loop-value-preserved
loop-value-preserved c =
    let more : flat_map groups (take c.loop-value.value-index c.args.values.now) ++ groups (get_or c.args.values.now c.loop-value.value-index 0)
    ≡ flat_map groups (take (c.loop-value.value-index + 1) c.args.values.now) = grind (arith, common_steps) in
    puts_same more (puts_both c.put_subidentifier.ensures c.loop-value.invariant)
