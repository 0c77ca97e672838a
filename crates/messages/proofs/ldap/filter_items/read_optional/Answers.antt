use Rattle.std.proofs.Common.{rules}
use Rattle.der_cursor.proofs.FormatLaws.{implicit_optional_read, returned}
use Rattle.messages.proofs.ldap.filter_items.read_optional.Goals as goal

pub returns : goal.returns
returns c = returned (implicit_optional_read _ 4 c.implicit.ensures.tagged c.optional_octets.ensures) (search rules)
