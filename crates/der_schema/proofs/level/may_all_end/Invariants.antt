use Rattle.std.proofs.Common.{◌≡◌, length}
use Rattle.std.specs.List.{list_all}
use Rattle.der_schema.specs.Ends.{level_ends}
use Rattle.der_schema.proofs.level.may_all_end.Given as goal

abbrev pub invariant-loop-level : goal.invariant-loop-level
invariant-loop-level l = list_all level_ends l.ahead ≡ list_all level_ends l.fn.levels

abbrev pub decreases-loop-level : goal.decreases-loop-level
decreases-loop-level l = length l.ahead
