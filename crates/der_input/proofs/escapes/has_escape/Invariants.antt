use Rattle.std.proofs.Common.{◌≡◌, length}
use Rattle.der_input.specs.Escapes.{has_escape}
use Rattle.der_input.proofs.escapes.has_escape.Given as goal

abbrev pub invariant-octets : goal.invariant-octets
invariant-octets l = record { same : has_escape l.fn.text ≡ has_escape l.rest }

abbrev pub decreases-octets : goal.decreases-octets
decreases-octets l = length l.rest
