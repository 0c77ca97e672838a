use Rattle.std.proofs.Common.{refl}
use Rattle.der_cursor.specs.Formats.{Implicit, NoMemory, OctetString}
use Rattle.der_cursor.proofs.Sequences.{mapped_read, may_need, not_mapped}
use Rattle.messages.specs.Ldap.Filters.{present}
use Rattle.messages.proofs.ldap.filter_items.read_present.Goals as goal

pub returns-in_err-attribute : goal.returns-in_err-attribute
returns-in_err-attribute c = not_mapped (λ v. present v) (Implicit 7 OctetString) _ c.from_residual.ensures.1 (may_need NoMemory _ c.in_err-attribute.ensures)

pub returns : goal.returns
returns c = mapped_read (λ v. present v) (Implicit 7 OctetString) refl c.in_ok-attribute.ensures
