use Rattle.std.proofs.Common.{arith}
use Rattle.der_writer.proofs.Moves.{fills_mid}
use Rattle.der_writer.proofs.writer.put_between.Goals as goal

pub returns-then-end-out : goal.returns-then-end-out
returns-then-end-out c =
    rw (c.write_primitive.ensures)
    (fills_mid c.args.begin c.args.end c.args.out.now _ (omega arith) (omega arith) (c.requires (omega arith)))
