use Rattle.std.proofs.Common.{None, Some, refl}
use Rattle.der_actions.proofs.naming.naming_by.Goals as goal

pub returns-in-Some : goal.returns-in-Some
returns-in-Some c = (Some c.in-Some.schema, c.in-Some.ensures, refl)

pub returns-in-None : goal.returns-in-None
returns-in-None c = (None, c.in-None.ensures, refl)
