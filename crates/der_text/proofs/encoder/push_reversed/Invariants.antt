use Rattle.std.proofs.Common.{◌≡◌, ◌++◌, reverse, length}
use Rattle.der_text.proofs.encoder.push_reversed.Given as goal

-- what is left and what was pushed are all
abbrev pub invariant-loop-last : goal.invariant-loop-last
invariant-loop-last l = l.rest ++ reverse l.reversed.items ≡ l.octets ++ reverse l.initial.reversed.items

abbrev pub decreases-loop-last : goal.decreases-loop-last
decreases-loop-last l = length l.rest
