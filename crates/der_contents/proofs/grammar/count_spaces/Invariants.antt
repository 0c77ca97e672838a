use Rattle.std.proofs.Common.{All, take}
use Rattle.der_contents.specs.Grammar.{IsSpace}
use Rattle.der_contents.proofs.grammar.count_spaces.Given as goal

abbrev pub invariant-loop-index : goal.invariant-loop-index
invariant-loop-index l = All IsSpace (take l.index l.octets)
