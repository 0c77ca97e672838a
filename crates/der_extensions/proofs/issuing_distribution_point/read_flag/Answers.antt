use Rattle.std.proofs.Common.{false, rules}
use Rattle.der_cursor.proofs.FormatLaws.{returned}
use Rattle.der_extensions.proofs.DefaultLaws.{implicit_boolean_or_read}
use Rattle.der_extensions.proofs.issuing_distribution_point.read_flag.Goals as goal

pub returns : goal.returns
returns c = returned (implicit_boolean_or_read false c.implicit.ensures.tagged c.boolean_or.ensures) (search rules)
