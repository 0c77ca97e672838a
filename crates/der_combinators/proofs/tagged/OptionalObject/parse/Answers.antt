use Rattle.std.proofs.Common.{refl}
use Rattle.der_combinators.proofs.tagged.OptionalObject.parse.Goals as goal

pub returns-clause-run : goal.returns-clause-run
returns-clause-run g c = rw (← c.self.view_is) (_, _, refl, c.call_mut.ensures, c.may_be_absent.ensures)
