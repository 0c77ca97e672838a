use Rattle.std.proofs.Common.{refl}
use Rattle.der_extensions.specs.GeneralNames.{rfc822_name}
use Rattle.der_extensions.proofs.NameLaws.{chosen_read, chosen_stops}
use Rattle.der_extensions.proofs.general_name.read_rfc822_name.Goals as goal

pub returns-in_err-text : goal.returns-in_err-text
returns-in_err-text c = chosen_stops rfc822_name (c.in_err-text.ensures) c.from_residual.ensures.1

pub returns : goal.returns
returns c = chosen_read rfc822_name refl (c.in_ok-text.ensures)
