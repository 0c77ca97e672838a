use Rattle.std.proofs.Common.{refl}
use Rattle.der_extensions.specs.GeneralNames.{uniform_resource_identifier}
use Rattle.der_extensions.proofs.NameLaws.{chosen_read, chosen_stops}
use Rattle.der_extensions.proofs.general_name.read_uniform_resource_identifier.Goals as goal

pub returns-in_err-text : goal.returns-in_err-text
returns-in_err-text c = chosen_stops uniform_resource_identifier (c.in_err-text.ensures) c.from_residual.ensures.1

pub returns : goal.returns
returns c = chosen_read uniform_resource_identifier refl (c.in_ok-text.ensures)
