-- What a parser returns, by the name of a refusal and the number of octets that are lacking.
use Rattle.std.specs.Prelude.{◌≡◌, ℕ, Result, Ok, Err}
use Rattle.der_base.specs.declared.error.Err.{Err as Refused}
use Rattle.der_base.specs.declared.error.Err.TheVariants.{Incomplete, Error, Failure, OutOfMemory}
use Rattle.der_base.specs.declared.error.Error.{Error as BerError}
use Rattle.der_base.specs.declared.error.Needed.TheVariants.{Unknown, Size}
use Rattle.der_base.specs.Refusal.{Refusal, refusal}

-- An Ok, an Error, an Incomplete of a number, or out of memory, and what holds at each. Nothing else is returned.
abbrev pub MatchAnswer : {T : Type 0} → Result T (Refused BerError) → (T → Type 0) → (Refusal → Type 0) → (ℕ → Type 0)
    → Type 0 → Type 0
MatchAnswer (Ok x) P Q R M = P x
MatchAnswer (Err (Error e)) P Q R M = Q (refusal e)
MatchAnswer (Err (Incomplete (Size n))) P Q R M = R n
MatchAnswer (Err (Incomplete Unknown)) P Q R M = ⊥
MatchAnswer (Err (Failure e)) P Q R M = ⊥
MatchAnswer (Err OutOfMemory) P Q R M = M

-- the result is the Error of this name
abbrev pub AnswersError : {T : Type 0} → Result T (Refused BerError) → Refusal → Type 0
AnswersError r e = MatchAnswer r (λ _. ⊥) (λ x. x ≡ e) (λ _. ⊥) ⊥

-- the same of a call that may find no memory where M holds
abbrev pub AnswersOkOr : {T : Type 0} → Type 0 → Result T (Refused BerError) → (T → Type 0) → Type 0
AnswersOkOr M r P = MatchAnswer r P (λ _. ⊥) (λ _. ⊥) M

abbrev pub AnswersErrorOr : {T : Type 0} → Type 0 → Result T (Refused BerError) → Refusal → Type 0
AnswersErrorOr M r e = MatchAnswer r (λ _. ⊥) (λ x. x ≡ e) (λ _. ⊥) M

abbrev pub AnswersIncompleteOr : {T : Type 0} → Type 0 → Result T (Refused BerError) → ℕ → Type 0
AnswersIncompleteOr M r n = MatchAnswer r (λ _. ⊥) (λ _. ⊥) (λ m. m ≡ n) M
