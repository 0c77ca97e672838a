use Rattle.std.proofs.Common.{sym, subst}
use Rattle.der_writer.specs.Octets.{cleared}
use Rattle.der_canon.specs.Same.{with_bits, with_first}
use Rattle.der_canon.specs.Writing.{HasWritten}
use Rattle.der_canon.proofs.Buffers.{written_more}
use Rattle.der_canon.proofs.Puts.{no_octets}
use Rattle.der_canon.proofs.writer.Writer.put_bits_after.Goals as goal

pub returns-in-Some-clause-bits : goal.returns-in-Some-clause-bits
returns-in-Some-clause-bits c = λ xs x h.
    let u = c.in-Some.unused.now in
    let first = c.set_first.ensures.first xs x h in
    subst (λ z. HasWritten xs (with_bits z x) c.put_bits.new.self c.put_bits.new.out) (sym c.in-Some.ensures.cases.0)
    (written_more xs (with_first u x) (cleared u c.in-Some.bits.now) _ _ _ _ first c.put_bits.ensures)

pub returns-in_default-clause-bits : goal.returns-in_default-clause-bits
returns-in_default-clause-bits c = λ xs x h.
    subst (λ z. HasWritten xs (with_bits z x) c.args.self.now c.args.out.now) (no_octets c.args.content.now c.in_default.ensures.cases) h
