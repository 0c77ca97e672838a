-- What one result of the parser of its items makes of a list.
use Rattle.std.specs.Prelude.{◌≡◌, ℕ, ◌<◌, ⊤, Option, Some, None, List, [], ◌∷◌, ◌++◌, length, Result, Ok, Err}
use Rattle.std.specs.Borrow.{Bor}
use Rattle.der_base.specs.declared.error.Err.{Err as Refused}
use Rattle.der_base.specs.declared.error.ErrorKind.{ErrorKind}
use Rattle.der_base.specs.Containers.{Answered}
use Rattle.der_base.specs.ListSteps.{LastCall}

-- the parser returned a on the input p, whatever its state
abbrev pub Gave : {O E : Type 0} → Bor (List ℕ) → Answered O E → ⊤ → Bor (List ℕ) → Answered O E → ⊤ → Type 0
Gave p a _ q r _ = (q ≡ p) × (r ≡ a)

module _ {O E : Type 0} (from_error_kind_gives : Bor (List ℕ) → ErrorKind → E → Type 0) where
  -- of the result a on the input p, after the values vs: a value more, and what it leaves, or the end of the list
  pub data Takes (p : Bor (List ℕ)) (a : Answered O E) (vs : List O)
      : Result (Option (Bor (List ℕ))) (Refused E) → List O → Type 0 where
    one_more : {r : Bor (List ℕ)} {v : O} → a ≡ Ok (r, v) → length r.now < length p.now
        → Takes p a vs (Ok (Some r)) (vs ++ v ∷ [])
    ended : LastCall (Gave p a) from_error_kind_gives tt p.now vs (Ok vs) tt → Takes p a vs (Ok None) vs
    refused : {e : Refused E} {us : List O} → LastCall (Gave p a) from_error_kind_gives tt p.now vs (Err e) tt
        → Takes p a vs (Err e) us
