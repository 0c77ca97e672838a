use Rattle.std.proofs.Common.{◌≡◌, ◌≤◌, ◌++◌, length, take}
use Rattle.der_input.specs.Plain.{characters_from}
use Rattle.der_input.proofs.characters.put_characters_among.Given as goal

abbrev pub invariant-octets : goal.invariant-octets
invariant-octets l = record {
  within : l.end ≤ length l.room;
  written : characters_from 0 l.fn.octets ≡ take l.end l.room ++ characters_from 0 l.rest;
}

abbrev pub decreases-octets : goal.decreases-octets
decreases-octets l = length l.rest
