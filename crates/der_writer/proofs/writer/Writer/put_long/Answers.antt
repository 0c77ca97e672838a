use Rattle.std.proofs.Common.{false, refl, arith}
use Rattle.der_writer.specs.Written.{leaf}
use Rattle.der_writer.proofs.Counts.{puts_filled}
use Rattle.der_writer.proofs.Headers.{element_size}
use Rattle.der_writer.proofs.writer.Writer.put_long.Goals as goal

pub returns : goal.returns
unfolding leaf
returns c =
    let x = c.args.octets.now in
    let k = c.tag_put-class.result in
    let size = element_size k.0 false k.1.0 x _ c.header_size.result refl (c.header_size.ensures.count k.0 false) in
    rw (← c.tag_put-class.ensures.class, ← c.tag_put-class.ensures.number)
    (puts_filled c.args.self.now _ _ c.saturating_add-size.result refl refl refl (omega arith)
    (omega (arith, c.saturating_add-size.ensures, size)) c.saturating_add-end.ensures c.put_between.ensures)
