use Rattle.std.proofs.Common.{refl}
use Rattle.der_extensions.specs.GeneralNames.{dns_name}
use Rattle.der_extensions.proofs.NameLaws.{chosen_read, chosen_stops}
use Rattle.der_extensions.proofs.general_name.read_dns_name.Goals as goal

pub returns-in_err-text : goal.returns-in_err-text
returns-in_err-text c = chosen_stops dns_name (c.in_err-text.ensures) c.from_residual.ensures.1

pub returns : goal.returns
returns c = chosen_read dns_name refl (c.in_ok-text.ensures)
