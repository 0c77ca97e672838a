-- Object identifiers (X.690 8.19 and 8.20).
use Rattle.std.specs.Prelude.{◌≡◌, ℕ, Bool, false, List, ◌∷◌, Result, Ok, Err}
use Rattle.std.specs.Cow.{cow_slice_items, IsBorrowedSlice}
use Rattle.der_base.specs.declared.error.OidParseError.{OidParseError}
use Rattle.der_base.specs.declared.error.OidParseError.TheVariants.{OutOfMemory}
use Rattle.der_base.specs.declared.oid.Oid.{Oid}
use Rattle.der_base.specs.declared.oid.OidIter.{OidIter}
use Rattle.der_base.specs.declared.oid.NextArc.{NextArc}
use Rattle.der_base.specs.declared.oid.NextArc.TheVariants.{First, Second, Further}
use Rattle.der_base.specs.Arcs.{arcs_of_values}
use Rattle.der_base.specs.OidArcs.{subidentifier_values}

-- the content octets
abbrev pub octets_of : Oid → List ℕ
octets_of x = cow_slice_items x.octets

abbrev pub is_relative_of : Oid → Bool
is_relative_of x = x.relative

-- it does not own its octets
abbrev pub IsBorrowed : Oid → Type 0
IsBorrowed x = IsBorrowedSlice x.octets

-- the arcs that are left if these octets follow those that were read
abbrev pub arcs_from : NextArc → List ℕ → List ℕ
arcs_from First w = arcs_of_values false (subidentifier_values w)
arcs_from (Second y) w = y ∷ subidentifier_values w
arcs_from Further w = subidentifier_values w

-- the arcs that an iterator has not yet returned
abbrev pub arcs_left : OidIter → List ℕ
arcs_left i = arcs_from i.next i.octets.now

-- The result is the identifier with these octets or out of memory for them, or it is this refusal.
abbrev pub Makes : Bool → Result (List ℕ) OidParseError → Result Oid OidParseError → Type 0
Makes relative (Ok w) (Ok x) = (octets_of x ≡ w) × (is_relative_of x ≡ relative)
Makes relative (Ok w) (Err e) = e ≡ OutOfMemory
Makes relative (Err refusal) (Ok x) = ⊥
Makes relative (Err refusal) (Err e) = e ≡ refusal
