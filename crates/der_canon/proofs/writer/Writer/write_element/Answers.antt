use Rattle.der_canon.specs.Writing.{constructed, primitive}
use Rattle.der_canon.proofs.Buffers.{written_more}
use Rattle.der_canon.proofs.Puts.{no_content, primitive_put}
use Rattle.der_canon.proofs.writer.Writer.write_element.Goals as goal

pub returns-then-element-clause-element : goal.returns-then-element-clause-element
returns-then-element-clause-element c = λ xs x h.
    let q = c.complete.ensures.complete xs x h in
    constructed q.0 q.1 c.if-element.true q.2 (c.begin.ensures.begun q.0 q.1 q.3)

pub returns-in-Some-clause-element : goal.returns-in-Some-clause-element
returns-in-Some-clause-element c = λ xs x h.
    let q = c.complete.ensures.complete xs x h in
    let e = c.args.element.now in
    let w = c.in-Some.content in
    primitive q.0 q.1 w c.if-element.false c.in-Some.is q.2
    (written_more q.0 q.1 _ _ _ _ _ q.3 (primitive_put e w _ _ _ _ _ _ _ _ c.requires c.if-element.false c.put.ensures c.put_length.ensures c.put_value.ensures))

pub returns-in_default-clause-element : goal.returns-in_default-clause-element
returns-in_default-clause-element c = λ xs x h. absurd (no_content c.args.element.now c.requires c.if-element.false c.in_default.is)
