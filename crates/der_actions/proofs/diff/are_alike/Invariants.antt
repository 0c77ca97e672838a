use Rattle.std.proofs.Common.{◌≡◌, take}
use Rattle.std.specs.Prelude.{map}
use Rattle.der_actions.specs.Differences.{compared}
use Rattle.der_actions.proofs.diff.are_alike.Given as goal

-- the elements so far are alike
abbrev pub invariant-loop-index : goal.invariant-loop-index
invariant-loop-index l = record { alike : take l.index (map compared l.old) ≡ take l.index (map compared l.new) }
