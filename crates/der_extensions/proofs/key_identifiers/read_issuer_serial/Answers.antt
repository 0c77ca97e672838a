use Rattle.std.proofs.Common.{rules}
use Rattle.der_values.specs.Kinds.{integers}
use Rattle.der_cursor.proofs.FormatLaws.{implicit_optional_read, returned}
use Rattle.der_extensions.proofs.key_identifiers.read_issuer_serial.Goals as goal

pub returns : goal.returns
returns c = returned (implicit_optional_read integers 2 c.implicit.ensures.tagged c.optional_integer.ensures) (search rules)
