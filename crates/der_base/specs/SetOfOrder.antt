-- The order of a SET OF by DER (X.690 11.6): the octets of its values ascend, the shorter one padded with octets of 0
-- at its end.
use Rattle.std.specs.Prelude.{◌≡◌, ℕ, ◌<◌, List, [], ◌∷◌, ◌++◌, length, get_or, Result, Ok, Err}
use Rattle.std.specs.Borrow.{Bor}
use Rattle.der_base.specs.declared.error.DerConstraint.TheVariants.{SetOfOrder}
use Rattle.der_base.specs.declared.error.Err.{Err as Refused}
use Rattle.der_base.specs.declared.error.Err.TheVariants.{Error}
use Rattle.der_base.specs.declared.error.Error.{Error as BerError}
use Rattle.der_base.specs.declared.error.ErrorKind.{ErrorKind}
use Rattle.der_base.specs.Containers.{Answered}
use Rattle.der_base.specs.ListSteps.{Calls, LastCall, no_room, taken}
use Rattle.der_base.specs.Refusal.{refusal, der_constraint}

-- an octet by its place; after the last one there are octets of 0
abbrev pub padded : List ℕ → ℕ → ℕ
padded w k = get_or w k 0

-- a is the greater: at the first place where they differ, its octet is
pub record Descends (a b : List ℕ) : Type 0 where
  pub place : ℕ
  pub before : (j : ℕ) → j < place → padded a j ≡ padded b j
  pub there : padded b place < padded a place

-- no two neighbours descend
abbrev pub IsAscending : List (List ℕ) → Type 0
IsAscending [] = Unit {0}
IsAscending (s ∷ []) = Unit {0}
IsAscending (s ∷ t ∷ ss) = (¬ Descends s t) × IsAscending (t ∷ ss)

-- the last of them and what follows it descend
abbrev pub DescendsAtEnd : List (List ℕ) → List ℕ → Type 0
DescendsAtEnd ss t = (front : List (List ℕ)) × (s : List ℕ) × (ss ≡ front ++ s ∷ []) × Descends s t

-- what the last call took, where it read a value
abbrev pub last_taken : {F O E : Type 0} {step : F → Bor (List ℕ) → Answered O E → F → Type 0}
    {from_error_kind_gives : Bor (List ℕ) → ErrorKind → E → Type 0} {f g : F} {j : List ℕ} {vs : List O}
    {answer : Result (List O) (Refused E)} → LastCall step from_error_kind_gives f j vs answer g → List (List ℕ)
last_taken {j = j} (no_room {r = r} _ _ _) = taken j r.now ∷ []
last_taken _ = []

module _ {F O E : Type 0} (from_error_kind_gives : Bor (List ℕ) → ErrorKind → E → Type 0)
    (from_gives : BerError → E → Type 0) (step : F → Bor (List ℕ) → Answered O E → F → Type 0) where
  -- The calls of a parser of a SET OF: those of any list, where all that they take ascends. The call that takes what
  -- descends is the last, and its value is refused, whether or not there is memory for it.
  pub data OrderedSteps (w : List ℕ) (f : F) : Result (List O) (Refused E) → F → Type 0 where
    in_order : {vs : List O} {ss : List (List ℕ)} {m g : F} {j : List ℕ} {answer : Result (List O) (Refused E)}
        → Calls step f w vs ss m j → (last : LastCall step from_error_kind_gives m j vs answer g)
        → IsAscending (ss ++ last_taken last) → OrderedSteps w f answer g
    out_of_order : {vs : List O} {ss : List (List ℕ)} {m g : F} {j : List ℕ} {p r : Bor (List ℕ)} {v : O} {e : BerError}
        {x : E} → Calls step f w vs ss m j → IsAscending ss → step m p (Ok (r, v)) g → p.now ≡ j
        → length r.now < length j → DescendsAtEnd ss (taken j r.now) → refusal e ≡ der_constraint SetOfOrder
        → from_gives e x → OrderedSteps w f (Err (Error x)) g
