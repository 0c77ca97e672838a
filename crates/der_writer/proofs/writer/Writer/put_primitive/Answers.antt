use Rattle.der_writer.proofs.Composing.{puts_same}
use Rattle.der_writer.proofs.Headers.{plain_leaf}
use Rattle.der_writer.proofs.writer.Writer.put_primitive.Goals as goal

pub returns-then-has_short_header : goal.returns-then-has_short_header
returns-then-has_short_header c =
    puts_same
    (plain_leaf c.args.self.now.implicit c.args.tag.0 c.args.octets.now (c.has_short_header.ensures.0 c.if-has_short_header.true))
    c.put_short.ensures
