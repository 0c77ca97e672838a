use Rattle.std.proofs.Common.{◌≡◌, length}
use Rattle.der_input.specs.Faults.{from_character}
use Rattle.der_input.proofs.fault.from_character.Given as goal

abbrev pub invariant-octets : goal.invariant-octets
invariant-octets l = record { found : from_character l.fn.number 0 l.fn.octets ≡ from_character l.left 0 l.rest }

abbrev pub decreases-octets : goal.decreases-octets
decreases-octets l = length l.rest
