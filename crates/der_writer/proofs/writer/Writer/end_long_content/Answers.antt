use Rattle.std.proofs.Common.{refl, arith}
use Rattle.der_writer.proofs.Counts.{ends_filled}
use Rattle.der_writer.proofs.writer.Writer.end_long_content.Goals as goal

pub wrap-requires : goal.wrap-requires
wrap-requires c = λ room. omega (arith, c.length_octet_count.ensures.count)

pub returns : goal.returns
returns c =
    ends_filled c.args.start c.args.self.now _ c.saturating_sub-size.result c.saturating_sub-content_size.result
    c.length_octet_count.result refl refl refl (omega arith)
    c.saturating_sub-size.ensures c.saturating_sub-content_size.ensures c.length_octet_count.ensures.count
    (rw (← c.saturating_add.ensures) c.saturating_add-end.ensures) c.wrap.ensures
