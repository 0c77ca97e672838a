use Rattle.std.proofs.Common.{arith, refl}
use Rattle.der_elements.proofs.Ahead.{goes_on_later}
use Rattle.der_elements.proofs.Walks.{closed}
use Rattle.der_elements.proofs.walk.Walk.close_last.Goals as goal

pub returns-clause-keeps : goal.returns-clause-keeps
returns-clause-keeps c = λ x r i vs has. closed x r i vs c.args.self.now _ c.pop.new.self.items c.in-Some-pop.last c.in-Some.after has c.in-Some.ensures c.in-Some-pop.ensures.items refl refl refl refl refl refl

pub returns-clause-ahead : goal.returns-clause-ahead
returns-clause-ahead c = omega (arith, goes_on_later c.args.self.now c.in-Some.after c.in-Some.ensures)
