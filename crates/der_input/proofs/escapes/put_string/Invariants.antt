use Rattle.std.proofs.Common.{◌≡◌, ◌≤◌, ◌++◌, length, take}
use Rattle.der_input.specs.Escapes.{digits_from}
use Rattle.der_input.proofs.escapes.put_string.Given as goal

abbrev pub invariant-parts : goal.invariant-parts
invariant-parts l = record {
  within : l.end ≤ length l.room;
  written : digits_from l.quote 0 l.fn.text ≡ take l.end l.room ++ digits_from l.quote 0 l.rest;
}

abbrev pub decreases-parts : goal.decreases-parts
decreases-parts l = length l.rest
