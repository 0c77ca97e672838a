use Rattle.std.proofs.Common.{◌≡◌, take}
use Rattle.der_elements.specs.Walked.{steps_of}
use Rattle.der_elements.proofs.walk.Walk.path.Given as goal

-- the steps of the elements so far
abbrev pub invariant-loop-open : goal.invariant-loop-open
invariant-loop-open l = l.path.steps.items ≡ steps_of (take l.open-index l.open-items)
