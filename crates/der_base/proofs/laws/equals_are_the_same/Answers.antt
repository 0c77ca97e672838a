use Rattle.std.proofs.Common.{rules}
use Rattle.der_base.proofs.TreeEqualityLaws.{time-Decides, time_text-Decides}
use Rattle.der_base.proofs.laws.equals_are_the_same.Goals as goal

pub returns-clause-zone : goal.returns-clause-zone
returns-clause-zone c = search rules

pub returns-clause-time : goal.returns-clause-time
returns-clause-time c x y = time-Decides x y _ (returns-clause-zone c x.tz y.tz)

pub returns-clause-text : goal.returns-clause-text
returns-clause-text c x y = time_text-Decides x y _ (returns-clause-time c x.time y.time)
