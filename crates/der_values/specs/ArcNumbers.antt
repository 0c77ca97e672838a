-- The numbers of arcs, of any size (X.690 8.19 and 8.20).
use Rattle.std.specs.Prelude.{◌≡◌, ℕ, ◌-◌, ◌^◌, Bool, true, ◌&&◌, nat_lt, if◌then◌else◌, Option, Some, None, List}
use Rattle.std.specs.List.{list_all}
use Rattle.der_base.specs.Arcs.{arcs_of_values, ends_below_128, subidentifiers}
use Rattle.der_base.specs.Octets.{groups_value}
use Rattle.der_base.specs.OidArcs.{subidentifier_values}
use Rattle.der_values.specs.declared.arcs.ArcNumber.{ArcNumber}

-- each subidentifier in the octets has an end
abbrev pub AreEnded : List ℕ → Type 0
AreEnded w = list_all ends_below_128 (subidentifiers w) ≡ true

-- the arcs of an identifier, relative or not; none where a subidentifier has no end
abbrev pub arc_numbers : Bool → List ℕ → Option (List ℕ)
arc_numbers relative w =
    if list_all ends_below_128 (subidentifiers w)
    then Some (arcs_of_values relative (subidentifier_values w))
    else None

-- a subidentifier has an end, and is below 2^128
abbrev pub fits_u128 : List ℕ → Bool
fits_u128 s = ends_below_128 s && nat_lt (groups_value 0 s) (2 ^ 128)

-- each in the octets has one, and is
abbrev pub FitU128 : List ℕ → Type 0
FitU128 w = list_all fits_u128 (subidentifiers w) ≡ true

-- the arcs of an identifier, relative or not; none where a subidentifier has no end or is 2^128 or more
abbrev pub u128_arcs : Bool → List ℕ → Option (List ℕ)
u128_arcs relative w =
    if list_all fits_u128 (subidentifiers w)
    then Some (arcs_of_values relative (subidentifier_values w))
    else None

-- the number of an arc
abbrev pub arc_number : ArcNumber → ℕ
arc_number a = groups_value 0 a.groups.now - a.less
