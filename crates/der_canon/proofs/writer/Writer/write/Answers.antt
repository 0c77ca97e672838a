use Rattle.std.proofs.Common.{sym, inl, inr}
use Rattle.der_canon.proofs.writer.Writer.write.Goals as goal

pub returns-then-has_header-clause-piece : goal.returns-then-has_header-clause-piece
returns-then-has_header-clause-piece c = λ xs x h. inr (sym c.if-has_header.ensures, c.write_element.ensures.element xs x h)

pub returns-else-has_header-clause-piece : goal.returns-else-has_header-clause-piece
returns-else-has_header-clause-piece c = λ xs x h. inl (sym c.if-has_header.ensures, c.write_part.ensures.part xs x h)
