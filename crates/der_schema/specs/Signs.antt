-- Signs that tell a type from others that may have the same elements.
use Rattle.std.specs.Prelude.{ℕ, ◌-◌, ◌%◌, Bool, true, false, not, ◌&&◌, ◌==◌, nat_le, nat_lt, Option, Some, None, List, [], ◌∷◌}
use Rattle.std.specs.Prelude.{length, map, slice_get}
use Rattle.std.specs.List.{list_any}
use Rattle.der_base.specs.TreeEquality.{same_octets}
use Rattle.der_schema.specs.declared.sign.Requirement.{Requirement}
use Rattle.der_schema.specs.declared.sign.Requirement.TheVariants.{OneOf, NoneOf, Selects, Length, OddPositive}
use Rattle.der_schema.specs.declared.schema.Component.{Component}
use Rattle.der_schema.specs.declared.schema.Selection.{Selection}
use Rattle.der_schema.specs.declared.sign.Sign.{Sign}
use Rattle.der_schema.specs.Encodings.{encoding_in}
use Rattle.der_schema.specs.Meaning.{selected_by}
use Rattle.der_elements.specs.Visits.{Visited}

-- the content octets of the elements of an input, in preorder
abbrev pub contents_in : List ℕ → List Visited → List (List ℕ)
contents_in i vs = map (λ v. (encoding_in i v).content) vs

-- at least and at most this many octets
abbrev pub is_long : ℕ → ℕ → List ℕ → Bool
is_long least most os = nat_le least (length os) && nat_le (length os) most

abbrev pub is_low : Option ℕ → Bool
is_low None = false
is_low (Some b) = nat_lt b 128

abbrev pub ends_in_one : Option ℕ → Bool
ends_in_one None = false
ends_in_one (Some b) = (b % 2) == 1

-- the first bit of an INTEGER is 0 if it isn't negative, and the last is 1 if it is odd (X.690 8.3.3)
abbrev pub is_positive : List ℕ → Bool
is_positive os = is_low (slice_get os 0)

abbrev pub is_odd : List ℕ → Bool
is_odd os = ends_in_one (slice_get os (length os - 1))

abbrev pub is_odd_positive : List ℕ → Bool
is_odd_positive os = is_positive os && is_odd os

abbrev pub has_components : List Component → Bool
has_components [] = false
has_components (c ∷ cs) = true

-- an identifier selects something
abbrev pub selects : List Selection → List ℕ → Bool
selects selections os = has_components (selected_by selections os)

-- there is an element, and its content octets meet the requirement
abbrev pub meets : Requirement → Option (List ℕ) → Bool
meets r None = false
meets (OneOf these) (Some os) = list_any (λ one. same_octets one.octets.now os) these.now
meets (NoneOf these) (Some os) = not (list_any (λ one. same_octets one.octets.now os) these.now)
meets (Selects selections) (Some os) = selects selections.now os
meets (Length least most) (Some os) = is_long least most os
meets OddPositive (Some os) = is_odd_positive os

-- an input whose elements have these content octets has the sign
abbrev pub has_sign : List (List ℕ) → Sign → Bool
has_sign contents s = meets s.content (slice_get contents s.element)
