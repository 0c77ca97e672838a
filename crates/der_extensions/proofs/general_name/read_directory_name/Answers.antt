use Rattle.std.proofs.Common.{refl}
use Rattle.der_extensions.specs.GeneralNames.{directory_name}
use Rattle.der_extensions.proofs.NameLaws.{chosen_read, chosen_stops}
use Rattle.der_extensions.proofs.general_name.read_directory_name.Goals as goal

pub returns-in_err-name : goal.returns-in_err-name
returns-in_err-name c = chosen_stops directory_name (c.in_err-name.ensures) c.from_residual.ensures.1

pub returns : goal.returns
returns c = chosen_read directory_name refl (c.in_ok-name.ensures)
