use Rattle.std.proofs.Common.{refl}
use Rattle.der_combinators.specs.Inner.InOrder.{order_refused}
use Rattle.der_combinators.proofs.item.check_order.Goals as goal

pub returns-then-descends-clause-err : goal.returns-then-descends-clause-err
returns-then-descends-clause-err g c = (c.if-descends.ensures.0 refl, order_refused refl c.from.ensures)
