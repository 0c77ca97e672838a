use Rattle.std.proofs.Common.{rules}
use Rattle.der_values.specs.Kinds.{texts}
use Rattle.der_cursor.proofs.FormatLaws.{implicit_read, returned}
use Rattle.der_extensions.proofs.organization_identifier.read_tagged_text.Goals as goal

pub returns : goal.returns
returns c = returned (implicit_read (λ r. texts 19) c.implicit.ensures.tagged c.printable_string.ensures) (search rules)
