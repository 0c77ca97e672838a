-- A reader whose answers are so answers exactly, where the input shows one thing at most.
use Rattle.std.proofs.Common.{◌≡◌, ℕ, Result}
use Rattle.der_base.specs.declared.error.Err.{Err as Refused}
use Rattle.der_base.specs.declared.error.Error.{Error as BerError}
use Rattle.der_base.specs.Answer.{MatchAnswer}
use Rattle.der_base.specs.Exactly.{AnswersExactly}
use Rattle.der_base.specs.Refusal.{Refusal}
use Rattle.der_base.proofs.Answers.Answering.{only_ok_or, only_error_or, only_incomplete_or, answered}

-- of "spelled", "refused" and "lacking" one holds at most, and in one way
pub record ShowsOne {T V : Type 0} (value : T → V) (Reads : T → Type 0) (Spelled : V → Type 0) (Refuses : Refusal → Type 0) (Lacks : ℕ → Type 0) : Type 0 where
  pub spelled : (x : T) → Reads x → Spelled (value x)
  pub one_value : (x : T) (v : V) → Reads x → Spelled v → value x ≡ v
  pub one_refusal : (e e' : Refusal) → Refuses e → Refuses e' → e ≡ e'
  pub one_lack : (n n' : ℕ) → Lacks n → Lacks n' → n ≡ n'
  pub not_refused : (v : V) (e : Refusal) → Spelled v → Refuses e → ⊥
  pub not_lacking : (v : V) (n : ℕ) → Spelled v → Lacks n → ⊥
  pub not_both : (e : Refusal) (n : ℕ) → Refuses e → Lacks n → ⊥

module _ {T V : Type 0} {value : T → V} {Reads : T → Type 0} {Spelled : V → Type 0} {Refuses : Refusal → Type 0} {Lacks : ℕ → Type 0} {M C : Type 0} where
  pub exactly : (r : Result T (Refused BerError)) → ShowsOne value Reads Spelled Refuses Lacks → ((n : ℕ) → Lacks n → M → C) → MatchAnswer r Reads Refuses Lacks M
      → AnswersExactly r value Reads Spelled Refuses Lacks M C
  exactly r s cut h = record {
    found = h;
    only = λ v q. only_ok_or M r (λ x. value x ≡ v) h (λ x p. s.one_value x v p q) (λ e p. s.not_refused v e q p) (λ n p. s.not_lacking v n q p);
    refuses = λ e q. only_error_or M r e h (λ x p. s.not_refused (value x) e (s.spelled x p) q) (λ e' p. s.one_refusal e' e p q) (λ n p. s.not_both e n q p);
    lacks = λ n q. only_incomplete_or C r n (answered Reads Reads r h (λ x p. p) (λ e p. p) (λ n p. p) (cut n q)) (λ x p. s.not_lacking (value x) n (s.spelled x p) q) (λ e p. s.not_both e n p q)
        (λ m p. s.one_lack m n p q);
  }
