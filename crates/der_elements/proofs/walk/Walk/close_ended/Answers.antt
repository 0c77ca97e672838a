use Rattle.std.proofs.Common.{rules}
use Rattle.der_elements.proofs.walk.Walk.close_ended.Goals as goal

pub returns-clause-stays : goal.returns-clause-stays
returns-clause-stays c = c.close_last.ensures.stays (search rules)
