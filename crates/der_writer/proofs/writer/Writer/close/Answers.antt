use Rattle.std.proofs.Common.{sym}
use Rattle.der_writer.proofs.Composing.{closes_none, closes_ended}
use Rattle.der_writer.proofs.writer.Writer.close.Goals as goal

pub returns-then-mark-self : goal.returns-then-mark-self
returns-then-mark-self c = closes_none _ _ (λ e. c.if-mark-self.true (sym e))

pub returns : goal.returns
returns c = closes_ended c.args.mark c.args.self.now _ (sym c.if-mark-self.false) c.end_content.ensures
