use Rattle.std.proofs.Common.{length}
use Rattle.der_schema.proofs.SignLaws.{SignsLeft}
use Rattle.der_schema.proofs.sign.has_signs.Given as goal

-- it has the signs before these
abbrev pub invariant-loop-sign : goal.invariant-loop-sign
invariant-loop-sign l = SignsLeft l.fn.rules l.fn.input l.fn.signs l.ahead

abbrev pub decreases-loop-sign : goal.decreases-loop-sign
decreases-loop-sign l = length l.ahead
