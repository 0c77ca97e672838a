use Rattle.std.proofs.Common.{refl}
use Rattle.der_extensions.specs.Extensions.{name_relative_to_issuer}
use Rattle.der_extensions.proofs.NameLaws.{chosen_read, chosen_stops}
use Rattle.der_extensions.proofs.distribution_points.read_relative_name.Goals as goal

pub returns-in_err-list : goal.returns-in_err-list
returns-in_err-list c = chosen_stops name_relative_to_issuer c.in_err-list.ensures c.from_residual.ensures.1

pub returns : goal.returns
returns c = chosen_read name_relative_to_issuer refl c.in_ok-list.ensures
