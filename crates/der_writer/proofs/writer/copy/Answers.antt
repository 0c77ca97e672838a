use Rattle.std.proofs.Common.{arith}
use Rattle.der_writer.proofs.Moves.{fills_mid}
use Rattle.der_writer.proofs.writer.copy.Goals as goal

pub returns : goal.returns
returns c =
    rw (c.copy_from_slice.ensures.after)
    (fills_mid c.args.begin c.args.end c.args.out.now c.args.octets.now (omega arith) (omega arith) c.requires.between)
