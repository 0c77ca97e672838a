-- The elements at a place, and those that are listed.
use Rattle.std.specs.Prelude.{◌≡◌, ◌⊎◌, ℕ, ◌-◌, Bool, true, false, if◌then◌else◌, nat_le, nat_lt, Option, Some, None}
use Rattle.std.specs.Prelude.{List, [], ◌∷◌, ◌++◌}
use Rattle.der_actions.specs.declared.place.Place.{Place}
use Rattle.der_actions.specs.declared.place.Place.TheVariants.{Path, Offset}
use Rattle.der_actions.specs.declared.trail.Trail.{Trail}
use Rattle.der_actions.specs.Paths.{HasNamePath, path_of}
use Rattle.der_schema.specs.declared.schema.Schema.{Schema}
use Rattle.der_elements.specs.Paths.{path_text}
use Rattle.der_elements.specs.Visits.{Visited}

-- a text is the path to the last of the elements that were visited in i: as errors print it, or of the names of the
-- type that names i
abbrev pub IsPathTo : Option Schema → List ℕ → List Visited → List ℕ → Type 0
IsPathTo s i vs text = (path_text (path_of vs) ≡ text) ⊎ HasNamePath s i vs text

-- the element v, which is visited after vs in i, is at a place; without a place, it is one of the outermost
abbrev pub IsAsked : Option Schema → List ℕ → Option Place → List Visited → Visited → Type 0
IsAsked s i None vs v = v.depth ≡ 0
IsAsked s i (Some (Path text)) vs v = IsPathTo s i (vs ++ v ∷ []) text.now
IsAsked s i (Some (Offset n)) vs v = v.offset ≡ n

-- the path leads to the last of the elements that were visited, if the place is a path
abbrev pub FollowsPath : Option Place → Trail → List Visited → Type 0
FollowsPath (Some (Path text)) t vs = t.steps.items ≡ path_of vs
FollowsPath (Some (Offset n)) t vs = Unit {0}
FollowsPath None t vs = Unit {0}

-- none of the elements that were visited is at a place
pub data AreNotAsked (s : Option Schema) (i : List ℕ) (place : Option Place) : List Visited → Type 0 where
  none : AreNotAsked s i place []
  one_more : {vs : List Visited} (v : Visited) → AreNotAsked s i place vs → ¬ IsAsked s i place vs v
      → AreNotAsked s i place (vs ++ v ∷ [])

-- the depth of the element that the walk is still inside, before an element at this depth; None after its end
abbrev pub still_around : Option ℕ → ℕ → Option ℕ
still_around None depth = None
still_around (Some k) depth = if nat_lt k depth then Some k else None

-- the depth of the outermost element at the place, after an element at this depth; None while the walk isn't inside it
abbrev pub around_or : Option ℕ → Bool → ℕ → Option ℕ
around_or (Some k) asked depth = Some k
around_or None true depth = Some depth
around_or None false depth = None

abbrev pub around_after : Option ℕ → Bool → ℕ → Option ℕ
around_after around asked depth = around_or (still_around around depth) asked depth

-- an element at this depth is listed: it is inside the one at the place, and not too deep there
abbrev pub is_listed : Option ℕ → Option ℕ → ℕ → Bool
is_listed None most depth = false
is_listed (Some k) None depth = true
is_listed (Some k) (Some n) depth = nat_le (depth - k) n
