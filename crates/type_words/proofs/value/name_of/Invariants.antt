use Rattle.std.proofs.Common.{◌≡◌, length}
use Rattle.type_words.specs.Texts.{name_of}
use Rattle.type_words.proofs.value.name_of.Given as goal

-- the names before are of other numbers
abbrev pub invariant-loop-one : goal.invariant-loop-one
invariant-loop-one l = name_of l.ahead l.number ≡ name_of l.fn.names l.fn.number

abbrev pub decreases-loop-one : goal.decreases-loop-one
decreases-loop-one l = length l.ahead
