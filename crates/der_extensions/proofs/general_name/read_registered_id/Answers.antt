use Rattle.std.proofs.Common.{refl, rules}
use Rattle.der_values.specs.Kinds.{identifiers}
use Rattle.der_cursor.proofs.FormatLaws.{implicit_read, returned}
use Rattle.der_extensions.specs.GeneralNames.{registered_id}
use Rattle.der_extensions.proofs.NameLaws.{chosen_read, chosen_stops}
use Rattle.der_extensions.proofs.general_name.read_registered_id.Goals as goal

pub returns-in_err-identifier : goal.returns-in_err-identifier
returns-in_err-identifier c = chosen_stops registered_id (implicit_read (λ r. identifiers) c.implicit.ensures.tagged c.in_err-identifier.ensures) c.from_residual.ensures.1

pub returns : goal.returns
returns c = chosen_read registered_id refl (returned (implicit_read (λ r. identifiers) c.implicit.ensures.tagged c.in_ok-identifier.ensures) (search rules))
