use Rattle.std.proofs.Common.{List, ℕ, length, true}
use Rattle.extension_text.specs.Names.Escapes.{IsPlain}
use Rattle.extension_text.proofs.names.escaped.are_plain.Given as goal

-- if what is left is plain, all is
abbrev pub invariant-loop-left : goal.invariant-loop-left
invariant-loop-left l = record { done : IsPlain l.first l.left → IsPlain true l.fn.octets }

abbrev pub decreases-loop-left : goal.decreases-loop-left
decreases-loop-left l = length l.left
