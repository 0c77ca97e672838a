use Rattle.std.proofs.Common.{refl}
use Rattle.der_extensions.specs.Extensions.{full_name}
use Rattle.der_extensions.proofs.NameLaws.{chosen_read, chosen_stops}
use Rattle.der_extensions.proofs.distribution_points.read_full_name.Goals as goal

pub returns-in_err-names : goal.returns-in_err-names
returns-in_err-names c = chosen_stops full_name c.in_err-names.ensures c.from_residual.ensures.1

pub returns : goal.returns
returns c = chosen_read full_name refl c.in_ok-names.ensures
