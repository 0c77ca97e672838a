use Rattle.std.proofs.Common.{rules}
use Rattle.der_values.specs.Kinds.{bit_strings}
use Rattle.der_cursor.proofs.FormatLaws.{implicit_optional_read, returned}
use Rattle.der_extensions.proofs.distribution_points.read_bits.Goals as goal

pub returns : goal.returns
returns c = returned (implicit_optional_read bit_strings 3 c.implicit.ensures.tagged c.optional_bits.ensures) (search rules)
