use Rattle.std.proofs.Common.{length, refl, ap, arith}
use Rattle.der_canon.proofs.Buffers.{written_begun}
use Rattle.der_canon.proofs.writer.Writer.begin_content.Goals as goal

pub push-requires : goal.push-requires
push-requires c = omega (arith, c.requires, ap (λ v. length v.items) c.put.ensures.starts)

pub returns-clause-begun : goal.returns-clause-begun
returns-clause-begun c = λ xs x h. written_begun xs x c.args.self.now c.put.new.self _ c.args.out.now c.put.new.out h c.put.ensures refl c.push.ensures.items
