-- Arcs of an identifier, one after another.
use Rattle.std.specs.Prelude.{ℕ, false, List, ◌∷◌}
use Rattle.der_base.specs.Arcs.{arcs_of_values}
use Rattle.der_base.specs.OidArcs.{subidentifier_values}
use Rattle.der_values.specs.declared.arcs.Arcs.{Arcs}
use Rattle.der_values.specs.declared.arcs.NextArc.{NextArc}
use Rattle.der_values.specs.declared.arcs.NextArc.TheVariants.{First, Second, Further}
use Rattle.der_values.specs.declared.u128_arcs.NextNumber.{NextNumber}
use Rattle.der_values.specs.declared.u128_arcs.NextNumber.TheVariants as number
use Rattle.der_values.specs.declared.u128_arcs.U128Arcs.{U128Arcs}
use Rattle.der_values.specs.ArcNumbers.{arc_number}

-- the arcs that are left if these octets follow those that were read
abbrev pub arcs_from : NextArc → List ℕ → List ℕ
arcs_from First w = arcs_of_values false (subidentifier_values w)
arcs_from (Second a) w = arc_number a ∷ subidentifier_values w
arcs_from Further w = subidentifier_values w

-- the arcs that an iterator has not yet returned
abbrev pub arcs_left : Arcs → List ℕ
arcs_left i = arcs_from i.next i.octets.now

-- the same of arcs as numbers
abbrev pub numbers_from : NextNumber → List ℕ → List ℕ
numbers_from number.First w = arcs_of_values false (subidentifier_values w)
numbers_from (number.Second n) w = n ∷ subidentifier_values w
numbers_from number.Further w = subidentifier_values w

abbrev pub u128_arcs_left : U128Arcs → List ℕ
u128_arcs_left i = numbers_from i.next i.octets.now
