-- What the calls of a list parser say of its content and its values.
use Rattle.std.proofs.Common.{◌≡◌, ℕ, List, [], ◌∷◌, ◌++◌, ◌<◌, length, Result, Bor, Ok, refl}
use Rattle.der_base.specs.declared.error.Err.{Err as Refused}
use Rattle.der_base.specs.declared.error.ErrorKind.{ErrorKind}
use Rattle.der_base.specs.ListSteps.{Calls, no_call, one_more, LastCall, ListSteps, taken}
use Rattle.der_base.specs.Containers.{Answered}

module _ {F O E : Type 0} (step : F → Bor (List ℕ) → Answered O E → F → Type 0) where
  no_snoc : {X : Type 0} (xs : List X) (x : X) → xs ++ x ∷ [] ≡ [] → ⊥
  no_snoc [] x e = cc
  no_snoc (y ∷ xs) x e = cc

  -- with no value nothing was taken
  pub nothing_taken : {f : F} {i : List ℕ} {g : F} {j : List ℕ} {vs : List O} {ss : List (List ℕ)} → Calls step f i vs ss g j → vs ≡ [] → (i ≡ j) × (ss ≡ []) × (f ≡ g)
  nothing_taken no_call e = (refl, refl, refl)
  nothing_taken (one_more {vs = vs} {v = v} c s q l) e = absurd (no_snoc vs v e)

module _ {F O E : Type 0} {step : F → Bor (List ℕ) → Answered O E → F → Type 0} where
  -- one call more goes on
  pub gone_on : {w : List ℕ} {f m g : F} {vs us : List O} {ss : List (List ℕ)} {j : List ℕ} {p r : Bor (List ℕ)} {v : O} → Calls step f w vs ss m j
      → step m p (Ok (r, v)) g → p.now ≡ j → length r.now < length j → us ≡ vs ++ v ∷ [] → (ss' : List (List ℕ)) × Calls step f w us ss' g r.now
  gone_on {ss = ss} {j = j} {r = r} c s q l e = (ss ++ taken j r.now ∷ [], rw e (one_more c s q l))

module _ {F O E : Type 0} {step : F → Bor (List ℕ) → Answered O E → F → Type 0} {from_error_kind_gives : Bor (List ℕ) → ErrorKind → E → Type 0} where
  -- one call more ends the list
  pub ended : {w : List ℕ} {f m g : F} {vs : List O} {ss : List (List ℕ)} {j : List ℕ} {answer : Result (List O) (Refused E)} → Calls step f w vs ss m j
      → LastCall step from_error_kind_gives m j vs answer g → ListSteps step from_error_kind_gives w f answer g
  ended {m = m} {vs = vs} {ss = ss} {j = j} c l = record { values = vs; spellings = ss; between = m; left = j; calls = c; last = l }
