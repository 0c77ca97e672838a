-- The path to the element that was visited last.
use Rattle.std.proofs.Common.{◌≡◌, ◌∙◌, OnOk, Result, Ok, Err, Option, Some, None, List, [], ◌∷◌, ◌++◌, ap, append-nil, append_assoc, refl, sym, take, ℕ}
use Rattle.der_elements.specs.declared.path.Step.{Step}
use Rattle.der_elements.specs.Visits.{Visited}
use Rattle.der_elements.specs.Walked.{index_in}
use Rattle.der_actions.specs.declared.place.Place.{Place}
use Rattle.der_actions.specs.declared.place.Place.TheVariants.{Path, Offset}
use Rattle.der_actions.specs.declared.trail.Trail.{Trail}
use Rattle.der_actions.specs.Paths.{path_from, path_of, step_at}
use Rattle.der_actions.specs.Places.{FollowsPath}

abbrev one_more : List Visited → List Step → Visited → List Step
one_more before path v = take v.depth path ++ step_at (index_in v.depth before) v ∷ []

path_from_more : (before : List Visited) (path : List Step) (vs : List Visited) (v : Visited)
    → path_from before path (vs ++ v ∷ []) ≡ one_more (before ++ vs) (path_from before path vs) v
unfolding path_from
path_from_more before path [] v = ap (λ w. one_more w path v) (sym (append-nil before))
path_from_more before path (u ∷ vs) v =
    path_from_more (before ++ u ∷ []) (one_more before path u) vs v
    ∙ ap (λ w. one_more w (path_from (before ++ u ∷ []) (one_more before path u) vs) v) (append_assoc before (u ∷ []) vs)

-- the path to one more element
pub path_more : (vs : List Visited) (v : Visited) → path_of (vs ++ v ∷ []) ≡ take v.depth (path_of vs) ++ step_at (index_in v.depth vs) v ∷ []
path_more vs v = path_from_more [] [] vs v

-- before a walk
pub path_none : path_of [] ≡ []
unfolding path_from
path_none = refl

-- the same of a path that was lengthened
pub path_entered : (vs : List Visited) (v : Visited) (old new : List Step) (n : ℕ) → old ≡ path_of vs → n ≡ index_in v.depth vs
    → new ≡ take v.depth old ++ step_at n v ∷ [] → new ≡ path_of (vs ++ v ∷ [])
path_entered vs v old new n path index entered =
    entered ∙ ap (λ p. take v.depth p ++ step_at n v ∷ []) path ∙ ap (λ m. take v.depth (path_of vs) ++ step_at m v ∷ []) index ∙ sym (path_more vs v)

-- the path is that, whether it is asked for or not
pub follows : (place : Option Place) (t : Trail) (vs : List Visited) → t.steps.items ≡ path_of vs → FollowsPath place t vs
follows (Some (Path text)) t vs e = e
follows (Some (Offset n)) t vs e = tt
follows None t vs e = tt

-- what follows from what holds if there is a value
pub on_ok_then : {T E : Type 0} (r : Result T E) (P Q : Type 0) → (P → Q) → OnOk r P → OnOk r Q
on_ok_then (Ok x) P Q f h = f h
on_ok_then (Err e) P Q f h = tt
