use Rattle.std.proofs.Common.{◌+◌, ◌∷◌, length, refl, arith}
use Rattle.der_writer.proofs.Counts.{puts_filled}
use Rattle.der_writer.proofs.writer.Writer.put_short.Goals as goal

pub returns : goal.returns
returns c =
    puts_filled c.args.self.now _ (c.args.identifier ∷ length c.args.octets.now ∷ c.args.octets.now) (length c.args.octets.now + 2) refl refl refl
    (omega arith) (omega arith) c.saturating_add-end.ensures c.fill_short.ensures
