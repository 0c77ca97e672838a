use Rattle.der_canon.specs.Writing.{constructed_part, primitive_part}
use Rattle.der_canon.proofs.Puts.{no_content}
use Rattle.der_canon.proofs.writer.Writer.write_part.Goals as goal

pub returns-then-element-clause-part : goal.returns-then-element-clause-part
returns-then-element-clause-part c = λ xs x h. constructed_part c.if-element.true h

pub returns-in-Some-clause-part : goal.returns-in-Some-clause-part
returns-in-Some-clause-part c = λ xs x h. primitive_part c.in-Some.content c.if-element.false c.in-Some.is (c.put_part.ensures.part xs x h)

pub returns-in_default-clause-part : goal.returns-in_default-clause-part
returns-in_default-clause-part c = λ xs x h. absurd (no_content c.args.element.now c.requires c.if-element.false c.in_default.is)
