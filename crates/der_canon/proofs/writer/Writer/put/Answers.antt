use Rattle.std.proofs.Common.{refl}
use Rattle.der_canon.proofs.Buffers.{puts_filled}
use Rattle.der_canon.proofs.writer.Writer.put.Goals as goal

pub returns : goal.returns
returns c = puts_filled c.args.self.now _ c.args.out.now _ c.args.octets.now refl c.saturating_add-end.ensures c.put_octets.ensures
