-- Readers that return exactly what the input shows.
use Rattle.std.specs.Prelude.{◌≡◌, ℕ, Result}
use Rattle.der_base.specs.declared.error.Err.{Err as Refused}
use Rattle.der_base.specs.declared.error.Error.{Error as BerError}
use Rattle.der_base.specs.Answer.{MatchAnswer, AnswersOkOr, AnswersErrorOr, AnswersIncompleteOr}
use Rattle.der_base.specs.Refusal.{Refusal}

-- What is returned is so, and what is so is returned. `Reads` says what an Ok holds, `Spelled` which value the input
-- has, `Refuses` and `Lacks` what it shows to be wrong or missing. Only where `NeedsMemory` holds may OutOfMemory be
-- returned in the place of each, and for an input that is cut short only where `CutNeedsMemory` does.
pub record AnswersExactly {T V : Type 0} (result : Result T (Refused BerError)) (value : T → V)
    (Reads : T → Type 0) (Spelled : V → Type 0) (Refuses : Refusal → Type 0) (Lacks : ℕ → Type 0)
    (NeedsMemory CutNeedsMemory : Type 0) : Type 0 where
  -- each result is so, and there is no other
  pub found : MatchAnswer result Reads Refuses Lacks NeedsMemory
  -- what is spelled is read
  pub only : (v : V) → Spelled v → AnswersOkOr NeedsMemory result (λ x. value x ≡ v)
  -- a refusal that is shown is the result
  pub refuses : (e : Refusal) → Refuses e → AnswersErrorOr NeedsMemory result e
  -- an input that is cut short is Incomplete, by what it lacks
  pub lacks : (n : ℕ) → Lacks n → AnswersIncompleteOr CutNeedsMemory result n
