-- The arcs of object identifiers (X.690 8.19 and 8.20): read from octets, written as octets, and in a dotted text.
use Rattle.std.specs.Prelude.{◌≡◌, ℕ, ◌+◌, ◌*◌, ◌^◌, ◌<◌, Bool, true, false, ◌&&◌, ◌||◌, ◌==◌, nat_lt, if◌then◌else◌}
use Rattle.std.specs.Prelude.{List, [], ◌∷◌, length, map, Option, Some, None, Result, Ok, Err, All}
use Rattle.std.specs.List.{list_all, flat_map, slice_split}
use Rattle.std.specs.Str.{all_ascii_digits}
use Rattle.std.specs.Str.Parse.{digits_value}
use Rattle.der_base.specs.declared.error.OidParseError.{OidParseError}
use Rattle.der_base.specs.declared.error.OidParseError.TheVariants.{TooShort, FirstComponentsTooLarge, ParseInt}
use Rattle.der_base.specs.Arcs.{subidentifiers, is_whole, arcs}
use Rattle.der_base.specs.Octets.{groups, groups_value}

-- each subidentifier in the octets has an end, and fits a number of 64 bits
abbrev pub AreWhole : List ℕ → Type 0
AreWhole w = list_all is_whole (subidentifiers w) ≡ true

-- the numbers that the subidentifiers spell
abbrev pub subidentifier_values : List ℕ → List ℕ
subidentifier_values w = map (groups_value 0) (subidentifiers w)

-- The first two arcs of an absolute identifier have one subidentifier: the first is 0, 1 or 2, the second below 40
-- where the first is 0 or 1 (8.19.4), and it fits a number of 64 bits.
abbrev pub have_subidentifier : ℕ → ℕ → Bool
have_subidentifier x y = (nat_lt x 2 && nat_lt y 40) || (x == 2 && nat_lt (80 + y) (2 ^ 64))

-- the numbers that the subidentifiers of arcs spell: each arc, but the first two of an absolute identifier in one
abbrev pub values_of_arcs : Bool → List ℕ → List ℕ
values_of_arcs false (x ∷ y ∷ others) = (40 * x + y) ∷ others
values_of_arcs relative given = given

-- the content octets of the identifier with these arcs, each subidentifier in the fewest octets (8.19.2), or why there
-- are none
abbrev pub octets_of_arcs : Bool → List ℕ → Result (List ℕ) OidParseError
octets_of_arcs true [] = Err TooShort
octets_of_arcs true (x ∷ others) = Ok (flat_map groups (values_of_arcs true (x ∷ others)))
octets_of_arcs false [] = Err TooShort
octets_of_arcs false (x ∷ []) = Err TooShort
octets_of_arcs false (x ∷ y ∷ others) =
    if have_subidentifier x y then Ok (flat_map groups (values_of_arcs false (x ∷ y ∷ others)))
    else Err FirstComponentsTooLarge

-- the components of a text, between its points
abbrev pub components : List ℕ → List (List ℕ)
components text = slice_split (λ b. b == 46) text

-- decimal digits, at least one, that write a number of 64 bits
abbrev pub is_arc : List ℕ → Bool
is_arc ds = nat_lt 0 (length ds) && (all_ascii_digits ds && nat_lt (digits_value 10 ds) (2 ^ 64))

-- the arcs that a dotted text writes; none where a component is no arc
abbrev pub dotted_arcs : List ℕ → Option (List ℕ)
dotted_arcs text = if list_all is_arc (components text) then Some (map (digits_value 10) (components text)) else None

-- the content octets of the absolute identifier with these arcs, where a text writes arcs, or why there are none
abbrev pub octets_if_arcs : Option (List ℕ) → Result (List ℕ) OidParseError
octets_if_arcs None = Err ParseInt
octets_if_arcs (Some given) = octets_of_arcs false given

-- Where each subidentifier is below 2^63, the octets of arcs have these arcs.
abbrev pub ArcsComeBack : Type 0
ArcsComeBack = (relative : Bool) (given w : List ℕ) → octets_of_arcs relative given ≡ Ok w
    → All (λ v. v < 2 ^ 63) (values_of_arcs relative given)
    → arcs relative w ≡ Some given
