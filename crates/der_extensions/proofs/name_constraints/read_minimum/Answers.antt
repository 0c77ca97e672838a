use Rattle.std.proofs.Common.{rules}
use Rattle.der_cursor.proofs.FormatLaws.{returned}
use Rattle.der_extensions.proofs.DefaultLaws.{implicit_number_or_read}
use Rattle.der_extensions.proofs.name_constraints.read_minimum.Goals as goal

pub returns : goal.returns
returns c = returned (implicit_number_or_read 0 c.implicit.ensures.tagged c.u32_or.ensures) (search rules)
