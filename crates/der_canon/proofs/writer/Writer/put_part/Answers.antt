use Rattle.std.proofs.Common.{subst}
use Rattle.der_canon.specs.Writing.{HasWritten}
use Rattle.der_canon.proofs.Buffers.{written_more}
use Rattle.der_canon.proofs.Puts.{part_bits, part_octets}
use Rattle.der_canon.proofs.writer.Writer.put_part.Goals as goal

pub returns-then-number-eq3-clause-part : goal.returns-then-number-eq3-clause-part
returns-then-number-eq3-clause-part c = λ xs x h.
    subst (λ z. HasWritten xs z c.put_bits_after.new.self c.put_bits_after.new.out) (part_bits c.args.number c.args.content.now x c.if-number-eq3.true)
    (c.put_bits_after.ensures.bits xs x h)

pub returns-else-number-eq3-clause-part : goal.returns-else-number-eq3-clause-part
returns-else-number-eq3-clause-part c = λ xs x h.
    subst (λ z. HasWritten xs z c.put.new.self c.put.new.out) (part_octets c.args.number c.args.content.now x c.if-number-eq3.false)
    (written_more xs x c.args.content.now _ _ _ _ h c.put.ensures)
