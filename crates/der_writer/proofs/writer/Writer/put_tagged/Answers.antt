use Rattle.std.proofs.Common.{arith}
use Rattle.der_writer.proofs.Composing.{puts_same}
use Rattle.der_writer.proofs.Headers.{short_leaf}
use Rattle.der_writer.proofs.writer.Writer.put_tagged.Goals as goal

pub returns-then-octets-lt-LONG_LENGTH : goal.returns-then-octets-lt-LONG_LENGTH
returns-then-octets-lt-LONG_LENGTH c =
    puts_same
    (short_leaf c.args.self.now.implicit c.args.tag.0 c.tag_put-class.result _ c.args.octets.now c.tag_put-class.ensures.class c.tag_put-class.ensures.number c.identifier_octet.ensures (omega arith))
    c.put_short.ensures
