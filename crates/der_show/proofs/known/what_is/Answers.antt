use Rattle.std.proofs.Common.{inr}
use Rattle.der_show.proofs.known.what_is.Goals as goal

pub returns-in-Err : goal.returns-in-Err
returns-in-Err c = inr ((λ v h. c.in-Err.ensures.only v h), c.known_list.ensures)
