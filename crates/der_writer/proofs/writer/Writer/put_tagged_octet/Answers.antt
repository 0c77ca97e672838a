use Rattle.std.proofs.Common.{arith}
use Rattle.der_writer.proofs.Composing.{puts_same}
use Rattle.der_writer.proofs.Headers.{short_leaf}
use Rattle.der_writer.proofs.writer.Writer.put_tagged_octet.Goals as goal

pub returns-then-number-lt-LONG_TAG : goal.returns-then-number-lt-LONG_TAG
returns-then-number-lt-LONG_TAG c =
    puts_same
    (short_leaf c.args.self.now.implicit c.args.tag.0 c.tag_put-class.result _ _ c.tag_put-class.ensures.class c.tag_put-class.ensures.number c.identifier_octet.ensures (omega arith))
    c.put_elements.ensures
