-- What holds of an element that was opened holds of the input that begins with it.
use Rattle.std.proofs.Common.{ℕ, List, Ok, Err, IfOk, IfErr, Bor, inl, inr}
use Rattle.der_base.specs.declared.error.Err.{Err as Refused}
use Rattle.der_base.specs.declared.header.Header.{Header}
use Rattle.der_base.specs.Containers.{Answered, stopped, accepted, refused, ContainerRun, Made, not_made, made}
use Rattle.der_base.specs.Inner.Opened.{Opening, IsOpened, IsUnopened, Remakes}

module _ {E : Type 0} (opens : Header → List ℕ → List ℕ → Type 0) (refuses : Refused E → Type 0) where
  opened_of : (opened : Opening E) → IfOk opened (λ x. opens x.0 x.1.now x.2.now) → {h : Header} {w after : List ℕ} → IsOpened opened h w after → opens h w after
  opened_of (Ok x) o (p, q, a) = rw (p, q, a) o
  opened_of (Err e) o x = absurd x

  refused_of : (opened : Opening E) → IfErr opened refuses → {r : Refused E} → IsUnopened opened r → refuses r
  refused_of (Ok x) n q = absurd q
  refused_of (Err e) n q = rw q n

  -- a run over an element that was opened, or over a refusal
  pub opened_run : {F O : Type 0} (step : F → Bor (List ℕ) → Header → Answered O E → F → Type 0) (opened : Opening E) {f g : F} {r : Answered O E}
      → ContainerRun (IsOpened opened) (IsUnopened opened) step f r g
      → IfOk opened (λ x. opens x.0 x.1.now x.2.now) → IfErr opened refuses → ContainerRun opens refuses step f r g
  opened_run step opened (inl (refused q)) o n = inl (refused (refused_of opened n q))
  opened_run step opened (inr (stopped x s c)) o n = inr (stopped (opened_of opened o x) s c)
  opened_run step opened (inr (accepted x s c)) o n = inr (accepted (opened_of opened o x) s c)

-- a run whose value is made into another, whatever the header
pub remade_run : {F V O E : Type 0} (opens : Header → List ℕ → List ℕ → Type 0) (refuses : Refused E → Type 0) (step : F → Bor (List ℕ) → Header → Answered V E → F → Type 0) (makes : V → O → Type 0)
    → {f g : F} {r : Answered V E} (r' : Answered O E) → ContainerRun opens refuses step f r g → Remakes makes r r' → ContainerRun opens refuses (Made (λ h. makes) step) f r' g
remade_run opens refuses step makes (Ok y) (inl (refused q)) m = absurd m
remade_run opens refuses step makes (Err e) (inl (refused q)) m = rw m (inl (refused q))
remade_run opens refuses step makes (Ok y) (inr (stopped x s c)) m = absurd m
remade_run opens refuses step makes (Err e) (inr (stopped x s c)) m = rw m (inr (stopped x (not_made s) c))
remade_run opens refuses step makes (Ok y) (inr (accepted x s c)) m = let z = inr (accepted x (made s m.1) c) in rw m.0 z
remade_run opens refuses step makes (Err e) (inr (accepted x s c)) m = absurd m
