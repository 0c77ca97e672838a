use Rattle.std.proofs.Common.{refl, rules}
use Rattle.der_values.specs.Kinds.{octet_strings}
use Rattle.der_cursor.proofs.FormatLaws.{implicit_read, returned}
use Rattle.der_extensions.specs.GeneralNames.{ip_address}
use Rattle.der_extensions.proofs.NameLaws.{chosen_read, chosen_stops}
use Rattle.der_extensions.proofs.general_name.read_ip_address.Goals as goal

pub returns-in_err-address : goal.returns-in_err-address
returns-in_err-address c = chosen_stops ip_address (implicit_read (λ r. octet_strings) c.implicit.ensures.tagged c.in_err-address.ensures) c.from_residual.ensures.1

pub returns : goal.returns
returns c = chosen_read ip_address refl (returned (implicit_read (λ r. octet_strings) c.implicit.ensures.tagged c.in_ok-address.ensures) (search rules))
