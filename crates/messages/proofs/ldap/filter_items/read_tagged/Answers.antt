use Rattle.std.proofs.Common.{rules}
use Rattle.der_cursor.proofs.FormatLaws.{implicit_read, returned}
use Rattle.messages.proofs.ldap.filter_items.read_tagged.Goals as goal

pub returns : goal.returns
returns c = returned (implicit_read _ c.implicit.ensures.tagged c.octets.ensures) (search rules)
