-- The elements that are listed.
use Rattle.std.specs.Prelude.{◌≡◌, ◌≢◌, ◌↔◌, ℕ, Bool, true, false, IsTrue, Option, None, List, [], ◌∷◌, ◌++◌}
use Rattle.der_actions.specs.Places.{FollowsPath, IsAsked, around_after, is_listed}
use Rattle.der_actions.specs.declared.listing.Listing.{Listing}
use Rattle.der_actions.specs.declared.options.Options.{Options}
use Rattle.der_actions.specs.declared.place.Place.{Place}
use Rattle.der_schema.specs.declared.schema.Schema.{Schema}
use Rattle.der_elements.specs.Visits.{Visited}

-- a listed element, and those that were visited before it
pub record Listed : Type 0 where
  pub before : List Visited
  pub element : Visited

abbrev pub listed_after : List Visited → Visited → Listed
listed_after before v = record { before = before; element = v }

-- Some of the visited elements of i are listed: those at the place, and those inside them up to a depth. The walk is
-- inside one at the place with this depth, if it is inside one. Paths have the names of a type, if there is one.
pub data Lists (s : Option Schema) (i : List ℕ) (place : Option Place) (most : Option ℕ)
    : List Visited → Option ℕ → List Listed → Type 0 where
  start : Lists s i place most [] None []
  listed : {vs : List Visited} {us : List Listed} {around : Option ℕ} (v : Visited) (asked : Bool)
      → Lists s i place most vs around us
      → (IsTrue asked ↔ IsAsked s i place vs v) → is_listed (around_after around asked v.depth) most v.depth ≡ true
      → Lists s i place most (vs ++ v ∷ []) (around_after around asked v.depth) (us ++ listed_after vs v ∷ [])
  passed : {vs : List Visited} {us : List Listed} {around : Option ℕ} (v : Visited) (asked : Bool)
      → Lists s i place most vs around us
      → (IsTrue asked ↔ IsAsked s i place vs v) → is_listed (around_after around asked v.depth) most v.depth ≡ false
      → Lists s i place most (vs ++ v ∷ []) (around_after around asked v.depth) us

-- a walk through i visits the elements vs, and us of them are listed
abbrev pub AreListed : Option Schema → List ℕ → Options → List Visited → List Listed → Type 0
AreListed s i o vs us = (around : Option ℕ) × Lists s i o.place o.depth vs around us

-- a walk through i has visited the elements vs so far, and us of them are listed
pub record HasChosen (s : Option Schema) (i : List ℕ) (o : Options) (l : Listing) (vs : List Visited)
    (us : List Listed) : Type 0 where
  pub place : l.place ≡ o.place
  pub depth : l.depth ≡ o.depth
  pub lists : Lists s i o.place o.depth vs l.around us
  pub trail : FollowsPath o.place l.trail vs
  pub some : l.has_some ≡ true → us ≢ []
  pub none : l.has_some ≡ false → us ≡ []
