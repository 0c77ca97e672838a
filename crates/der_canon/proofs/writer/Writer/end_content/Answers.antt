use Rattle.std.proofs.Common.{refl, arith}
use Rattle.der_canon.proofs.Buffers.{length_put}
use Rattle.der_canon.proofs.writer.Writer.end_content.Goals as goal

pub wrap-requires : goal.wrap-requires
wrap-requires c = λ room. omega (arith, c.length_octet_count.ensures.count)

pub returns : goal.returns
returns c =
    length_put c.args.start c.args.self.now _ c.args.out.now _ c.saturating_sub-size.result c.saturating_sub-content_size.result
    c.length_octet_count.result refl c.saturating_sub-size.ensures c.saturating_sub-content_size.ensures c.length_octet_count.ensures.count
    (rw (← c.saturating_add.ensures) c.saturating_add-end.ensures) c.wrap.ensures
