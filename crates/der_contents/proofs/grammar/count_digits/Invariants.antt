use Rattle.std.proofs.Common.{All, take}
use Rattle.der_base.specs.Time.{IsDigit}
use Rattle.der_contents.proofs.grammar.count_digits.Given as goal

abbrev pub invariant-loop-index : goal.invariant-loop-index
invariant-loop-index l = All IsDigit (take l.index l.octets)
