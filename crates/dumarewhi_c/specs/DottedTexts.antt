-- Object identifiers in dotted form (X.680 32.3, X.690 8.19). As Rattle.der_base.specs.OidArcs, but with
-- subidentifiers below 2^128.
use Rattle.std.specs.Borrow.{Bor}
use Rattle.std.specs.Prelude.{◌≡◌, ℕ, ◌+◌, ◌^◌, Bool, false, ◌&&◌, ◌||◌, ◌==◌, nat_lt, if◌then◌else◌}
use Rattle.std.specs.Prelude.{List, [], ◌∷◌, length, map, Option, Some, None}
use Rattle.std.specs.List.{list_all, flat_map}
use Rattle.std.specs.Option.{option_and_then}
use Rattle.std.specs.Str.{all_ascii_digits}
use Rattle.std.specs.Str.Parse.{digits_value}
use Rattle.der_base.specs.Octets.{groups}
use Rattle.der_base.specs.OidArcs.{components, values_of_arcs}
use Rattle.der_values.specs.ArcNumbers.{u128_arcs}

-- decimal digits, at least one, that write a number below 2^128
abbrev pub is_arc : List ℕ → Bool
is_arc ds = nat_lt 0 (length ds) && (all_ascii_digits ds && nat_lt (digits_value 10 ds) (2 ^ 128))

-- the arcs that a text writes with points between them; none where a component is no arc
abbrev pub dotted_arcs : List ℕ → Option (List ℕ)
dotted_arcs text = if list_all is_arc (components text) then Some (map (digits_value 10) (components text)) else None

-- The first two arcs have one subidentifier: the first is 0, 1 or 2, the second below 40 where the first is 0 or 1
-- (8.19.4), and it is below 2^128.
abbrev pub have_subidentifier : ℕ → ℕ → Bool
have_subidentifier x y = (nat_lt x 2 && nat_lt y 40) || (x == 2 && nat_lt (80 + y) (2 ^ 128))

-- the content octets of the identifier with these arcs, each subidentifier in the fewest octets (8.19.2); none for
-- fewer than two arcs
abbrev pub octets_of_arcs : List ℕ → Option (List ℕ)
octets_of_arcs [] = None
octets_of_arcs (x ∷ []) = None
octets_of_arcs (x ∷ y ∷ others) =
    if have_subidentifier x y then Some (flat_map groups (values_of_arcs false (x ∷ y ∷ others))) else None

-- the content octets of the identifier that a text writes
abbrev pub octets_of_text : List ℕ → Option (List ℕ)
octets_of_text text = option_and_then octets_of_arcs (dotted_arcs text)

-- the octets of a text have the arcs that it writes
abbrev pub TextsComeBack : Type 0
TextsComeBack = (text w : List ℕ) → octets_of_text text ≡ Some w → u128_arcs false w ≡ dotted_arcs text

-- the components of the text behind a point, if there is one
abbrev pub components_left : Option (Bor (List ℕ)) → List (List ℕ)
components_left (Some text) = components text.now
components_left None = []

-- the subidentifier of a component that is an arc
abbrev pub groups_if_arc : List ℕ → List ℕ
groups_if_arc ds = if is_arc ds then groups (digits_value 10 ds) else []
