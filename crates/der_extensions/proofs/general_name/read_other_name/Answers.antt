use Rattle.std.proofs.Common.{refl}
use Rattle.der_extensions.specs.GeneralNames.{other_name}
use Rattle.der_extensions.proofs.NameLaws.{chosen_read, chosen_stops}
use Rattle.der_extensions.proofs.general_name.read_other_name.Goals as goal

pub returns-in_err-name : goal.returns-in_err-name
returns-in_err-name c = chosen_stops other_name (c.in_err-name.ensures) c.from_residual.ensures.1

pub returns : goal.returns
returns c = chosen_read other_name refl (c.in_ok-name.ensures)
