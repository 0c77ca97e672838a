-- What holds of an input once it is known which element a combinator opened, or why it opened none.
use Rattle.std.specs.Prelude.{◌≡◌, List, ℕ, Result, Ok, Err}
use Rattle.std.specs.Borrow.{Bor}
use Rattle.der_base.specs.declared.error.Err.{Err as Refused}
use Rattle.der_base.specs.declared.header.Header.{Header}
use Rattle.der_base.specs.Containers.{Answered}

-- its header, its content octets, and what follows it
abbrev pub Opening : Type 0 → Type 0
Opening E = Result (Header × Bor (List ℕ) × Bor (List ℕ)) (Refused E)

abbrev pub IsOpened : {E : Type 0} → Opening E → Header → List ℕ → List ℕ → Type 0
IsOpened (Ok x) h w after = (h ≡ x.0) × (w ≡ x.1.now) × (after ≡ x.2.now)
IsOpened (Err e) h w after = ⊥

abbrev pub IsUnopened : {E : Type 0} → Opening E → Refused E → Type 0
IsUnopened (Ok x) r = ⊥
IsUnopened (Err e) r = r ≡ e

-- the second result has in place of the first one's value another, as `makes` says, and the same rest
abbrev pub Remakes : {V O E : Type 0} → (V → O → Type 0) → Answered V E → Answered O E → Type 0
Remakes makes (Ok x) (Ok y) = (y.0 ≡ x.0) × makes x.1 y.1
Remakes makes (Err e) (Err e') = e' ≡ e
Remakes makes _ _ = ⊥
