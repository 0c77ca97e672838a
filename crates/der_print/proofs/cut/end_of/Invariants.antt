use Rattle.std.proofs.Common.{◌≡◌, ◌++◌}
use Rattle.std.proofs.Math.ListN.{take, drop}
use Rattle.std.specs.Fmt.{take_chars}
use Rattle.der_print.proofs.cut.end_of.Given as goal

abbrev pub invariant-loop-index : goal.invariant-loop-index
invariant-loop-index l = take l.index l.text ++ take_chars l.left (drop l.index l.text) ≡ take_chars l.characters l.text
