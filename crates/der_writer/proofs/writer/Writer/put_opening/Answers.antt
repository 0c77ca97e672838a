use Rattle.std.proofs.Common.{ap, ◌++◌}
use Rattle.der_writer.specs.Written.{reserved}
use Rattle.der_writer.proofs.Composing.{puts_same}
use Rattle.der_writer.proofs.writer.Writer.put_opening.Goals as goal

pub returns-then-tag-lt-LONG_TAG : goal.returns-then-tag-lt-LONG_TAG
returns-then-tag-lt-LONG_TAG c = puts_same (ap (λ l. l ++ reserved) c.identifier_octet.ensures) c.put_elements.ensures
