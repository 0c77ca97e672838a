use Rattle.std.proofs.Common.{refl}
use Rattle.der_combinators.proofs.wrapping.with_list.Goals as goal

pub returns-in-Ok : goal.returns-in-Ok
returns-in-Ok g c = rw c.in-Ok.is (refl, c.object.ensures)

pub returns-in-Err : goal.returns-in-Err
returns-in-Err g c = rw c.in-Err.is refl
