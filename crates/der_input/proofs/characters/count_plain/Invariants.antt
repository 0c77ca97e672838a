use Rattle.std.proofs.Common.{◌≡◌, ◌++◌, drop, take}
use Rattle.der_input.specs.Plain.{characters_from}
use Rattle.der_input.proofs.characters.count_plain.Given as goal

abbrev pub invariant-loop-index : goal.invariant-loop-index
invariant-loop-index l = characters_from 0 l.text ≡ take l.index l.text ++ characters_from 0 (drop l.index l.text)
