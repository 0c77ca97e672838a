use Rattle.std.proofs.Common.{◌-◌, refl, arith}
use Rattle.der_writer.proofs.Counts.{ends_short}
use Rattle.der_writer.proofs.writer.Writer.end_content.Goals as goal

pub returns-then-size-le-LONG_LENGTH : goal.returns-then-size-le-LONG_LENGTH
returns-then-size-le-LONG_LENGTH c =
    ends_short c.args.start c.args.self.now _ (c.saturating_sub-size.result - 1) refl refl refl refl (omega arith)
    (omega (arith, c.saturating_sub-size.ensures)) (omega arith) c.fill.ensures
