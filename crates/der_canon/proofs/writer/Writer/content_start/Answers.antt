use Rattle.std.proofs.Common.{length, sym, ap, ◌∙◌}
use Rattle.der_canon.proofs.Buffers.{first_after, first_alone}
use Rattle.der_canon.proofs.writer.Writer.content_start.Goals as goal

pub returns-in-Some : goal.returns-in-Some
returns-in-Some c = λ xs h room. first_after xs c.args.self.now.starts.items _ c.in-Some.start.now c.saturating_add.result h (sym c.as_slice.ensures.value ∙ c.in-Some.ensures.cases.0) c.saturating_add.ensures room

pub returns-in-None : goal.returns-in-None
returns-in-None c = λ xs h room. first_alone xs c.args.self.now.starts.items h (ap length (sym c.as_slice.ensures.value) ∙ c.in-None.ensures.cases)
