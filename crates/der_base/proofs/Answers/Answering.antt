-- From what each answer says, and from what excludes what, the only answer.
use Rattle.std.proofs.Common.{◌≡◌, ℕ, Result, Ok, Err}
use Rattle.std.specs.Prelude.{IfOk}
use Rattle.der_base.specs.declared.error.Err.{Err as Refused}
use Rattle.der_base.specs.declared.error.Err.TheVariants.{Incomplete, Error, Failure, OutOfMemory}
use Rattle.der_base.specs.declared.error.Error.{Error as BerError}
use Rattle.der_base.specs.declared.error.Needed.TheVariants.{Unknown, Size}
use Rattle.der_base.specs.Answer.{MatchAnswer, AnswersOkOr, AnswersErrorOr, AnswersIncompleteOr}
use Rattle.der_base.specs.Refusal.{Refusal, refusal}

-- M holds where the call may run out of memory
module _ {T : Type 0} {P : T → Type 0} {Q : Refusal → Type 0} {R : ℕ → Type 0} where
  pub only_ok_or : (M : Type 0) (r : Result T (Refused BerError)) (G : T → Type 0) → MatchAnswer r P Q R M → ((x : T) → P x → G x) → ((e : Refusal) → ¬ Q e) → ((n : ℕ) → ¬ R n) → AnswersOkOr M r G
  only_ok_or M (Ok x) G h p q n = p x h
  only_ok_or M (Err (Error e)) G h p q n = q (refusal e) h
  only_ok_or M (Err (Incomplete (Size m))) G h p q n = n m h
  only_ok_or M (Err (Incomplete Unknown)) G h p q n = h
  only_ok_or M (Err (Failure e)) G h p q n = h
  only_ok_or M (Err OutOfMemory) G h p q n = h

  pub only_error_or : (M : Type 0) (r : Result T (Refused BerError)) (e : Refusal) → MatchAnswer r P Q R M → ((x : T) → ¬ P x) → ((e' : Refusal) → Q e' → e' ≡ e) → ((n : ℕ) → ¬ R n)
      → AnswersErrorOr M r e
  only_error_or M (Ok x) e h p q n = p x h
  only_error_or M (Err (Error e')) e h p q n = q (refusal e') h
  only_error_or M (Err (Incomplete (Size m))) e h p q n = n m h
  only_error_or M (Err (Incomplete Unknown)) e h p q n = h
  only_error_or M (Err (Failure e')) e h p q n = h
  only_error_or M (Err OutOfMemory) e h p q n = h

  pub only_incomplete_or : (M : Type 0) (r : Result T (Refused BerError)) (m : ℕ) → MatchAnswer r P Q R M → ((x : T) → ¬ P x) → ((e : Refusal) → ¬ Q e) → ((n : ℕ) → R n → n ≡ m)
      → AnswersIncompleteOr M r m
  only_incomplete_or M (Ok x) m h p q n = p x h
  only_incomplete_or M (Err (Error e)) m h p q n = q (refusal e) h
  only_incomplete_or M (Err (Incomplete (Size k))) m h p q n = n k h
  only_incomplete_or M (Err (Incomplete Unknown)) m h p q n = h
  only_incomplete_or M (Err (Failure e)) m h p q n = h
  only_incomplete_or M (Err OutOfMemory) m h p q n = h

-- what follows from an Ok
pub ok_weaker : {T : Type 0} {P : T → Type 0} (Q : Refusal → Type 0) (R : ℕ → Type 0) (M : Type 0) (r : Result T (Refused BerError)) (G : T → Type 0) → MatchAnswer r P Q R M → ((x : T) → P x → G x)
    → IfOk r G
ok_weaker Q R M (Ok x) G h f = f x h
ok_weaker Q R M (Err e) G h f = tt

-- and from a clause of the Ok besides
pub ok_with : {T : Type 0} {P : T → Type 0} (Q : Refusal → Type 0) (R : ℕ → Type 0) (M : Type 0) (r : Result T (Refused BerError)) (H G : T → Type 0) → MatchAnswer r P Q R M → IfOk r H
    → ((x : T) → P x → H x → G x) → IfOk r G
ok_with Q R M (Ok x) H G h k f = f x h k
ok_with Q R M (Err e) H G h k f = tt

-- an answer that is no Ok, passed on as the answer of another call
pub passed_on : {T T' : Type 0} (P : T → Type 0) (P' : T' → Type 0) {Q Q' : Refusal → Type 0} {R R' : ℕ → Type 0} {M M' : Type 0} (e : Refused BerError)
    → MatchAnswer {T = T} (Err e) P Q R M → ((x : Refusal) → Q x → Q' x) → ((n : ℕ) → R n → R' n) → (M → M') → MatchAnswer {T = T'} (Err e) P' Q' R' M'
passed_on P P' (Error e) h q n m = q (refusal e) h
passed_on P P' (Incomplete (Size k)) h q n m = n k h
passed_on P P' (Incomplete Unknown) h q n m = absurd h
passed_on P P' (Failure e) h q n m = absurd h
passed_on P P' OutOfMemory h q n m = m h

-- a whole answer, said in other words
pub answered : {T : Type 0} (P P' : T → Type 0) {Q Q' : Refusal → Type 0} {R R' : ℕ → Type 0} {M M' : Type 0} (r : Result T (Refused BerError))
    → MatchAnswer r P Q R M → ((x : T) → P x → P' x) → ((x : Refusal) → Q x → Q' x) → ((n : ℕ) → R n → R' n) → (M → M') → MatchAnswer r P' Q' R' M'
answered P P' (Ok x) h p q n m = p x h
answered P P' (Err e) h p q n m = passed_on P P' e h q n m
