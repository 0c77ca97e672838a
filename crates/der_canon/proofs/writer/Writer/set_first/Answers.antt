use Rattle.std.proofs.Common.{arith}
use Rattle.der_canon.proofs.Buffers.{first_place, first_written, none_written}
use Rattle.der_canon.proofs.writer.Writer.set_first.Goals as goal

pub returns-then-begin-self-clause-first : goal.returns-then-begin-self-clause-first
returns-then-begin-self-clause-first c = λ xs x h.
    let a = c.args.self.now in
    first_written xs x c.args.octet c.content_start-begin.result a c.args.out.now _ h
    (first_place xs x a c.args.out.now c.content_start-begin.result h (omega arith) (c.content_start-begin.ensures xs)) (omega arith) c.put_octets.ensures

pub returns-else-begin-self-clause-first : goal.returns-else-begin-self-clause-first
returns-else-begin-self-clause-first c = λ xs x h.
    let a = c.args.self.now in
    none_written xs x c.args.octet c.content_start-begin.result a c.args.out.now h
    (first_place xs x a c.args.out.now c.content_start-begin.result h (omega arith) (c.content_start-begin.ensures xs)) (omega arith)
