use Rattle.std.proofs.Common.{rules}
use Rattle.der_values.specs.Kinds.{octet_strings}
use Rattle.der_cursor.proofs.FormatLaws.{implicit_optional_read, returned}
use Rattle.der_extensions.proofs.key_identifiers.read_key_identifier.Goals as goal

pub returns : goal.returns
returns c = returned (implicit_optional_read (λ r. octet_strings) 4 c.implicit.ensures.tagged c.optional_octets.ensures) (search rules)
