-- What is returned after the call of a reader.
use Rattle.std.proofs.Common.{◌≡◌, ◌==◌, ◌∙◌, ℕ, true, false, List, [], length, Option, None, Result, Ok, Err, IfOk, MatchResult, ap, arith, subst, sym, true≢false}
use Rattle.std.proofs.lemmas.Bool.Decides.{nat_tests}
use Rattle.std.proofs.lemmas.List.{nil_from_length}

-- after the error of one that may find no memory, which M says, none is right where it isn't that
pub after_error : {T E M : Type 0} (P : Option T → Type 0) (r : Result (Option T) E) → MatchResult r (λ found. (found ≡ None) × (¬ M)) (λ _. M) → ((¬ M) → P None) → IfOk r P
after_error P (Ok found) h k = subst P (sym h.0) (k h.1)
after_error P (Err e) h k = tt

-- whether octets are left
pub none_left : (w : List ℕ) → true ≡ (length w == 0) → w ≡ []
none_left w e = nil_from_length w (grind (arith, nat_tests, e))

pub some_left : (w : List ℕ) → false ≡ (length w == 0) → w ≡ [] → ⊥
some_left w e is = true≢false (sym (e ∙ ap (λ v. length v == 0) is))
