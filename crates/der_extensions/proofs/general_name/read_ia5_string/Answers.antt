use Rattle.std.proofs.Common.{rules}
use Rattle.der_values.specs.Kinds.{texts}
use Rattle.der_cursor.proofs.FormatLaws.{implicit_read, returned}
use Rattle.der_extensions.proofs.general_name.read_ia5_string.Goals as goal

pub returns : goal.returns
returns c = returned (implicit_read (λ r. texts 22) c.implicit.ensures.tagged c.ia5_string.ensures) (search rules)
