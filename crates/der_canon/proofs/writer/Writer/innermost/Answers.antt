use Rattle.std.proofs.Common.{arith}
use Rattle.der_canon.proofs.Buffers.{innermost_at, innermost_none}
use Rattle.der_canon.proofs.writer.Writer.innermost.Goals as goal

pub returns : goal.returns
returns c = λ xs x h.
    innermost_at xs x c.args.self.now c.args.out.now c.content_start-begin.result h (omega arith) (c.content_start-begin.ensures xs) (omega arith)

pub returns-then-self-out : goal.returns-then-self-out
returns-then-self-out c = λ xs x h.
    innermost_none xs x c.args.self.now c.args.out.now c.content_start-begin.result h (omega arith) (c.content_start-begin.ensures xs) (λ k. omega arith)

pub returns-then-begin-self : goal.returns-then-begin-self
returns-then-begin-self c = λ xs x h.
    innermost_none xs x c.args.self.now c.args.out.now c.content_start-begin.result h (omega arith) (c.content_start-begin.ensures xs) (λ k. absurd (omega (arith, k)))
