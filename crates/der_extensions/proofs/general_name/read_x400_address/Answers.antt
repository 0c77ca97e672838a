use Rattle.std.proofs.Common.{ap}
use Rattle.der_extensions.specs.GeneralNames.{x400_address}
use Rattle.der_extensions.proofs.NameLaws.{chosen_read, chosen_stops, kept_at}
use Rattle.der_extensions.proofs.general_name.read_x400_address.Goals as goal

pub returns-in_err-content : goal.returns-in_err-content
returns-in_err-content c = chosen_stops x400_address (kept_at c.in_err-content.ensures) c.from_residual.ensures.1

pub returns : goal.returns
returns c = chosen_read x400_address (ap x400_address c.remaining.ensures) (kept_at c.in_ok-content.ensures)
