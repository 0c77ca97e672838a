use Rattle.std.proofs.Common.{◌≡◌, length}
use Rattle.der_schema.specs.NamePaths.{shown}
use Rattle.der_schema.proofs.name_path.shown.Given as goal

-- the steps before have no text
abbrev pub invariant-loop-first : goal.invariant-loop-first
invariant-loop-first l = shown l.ahead ≡ shown l.fn.steps

abbrev pub decreases-loop-first : goal.decreases-loop-first
decreases-loop-first l = length l.ahead
