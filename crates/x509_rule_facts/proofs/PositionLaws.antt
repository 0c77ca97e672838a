-- Where octets are first.
use Rattle.std.proofs.Common.{◌≡◌, ℕ, ◌≤◌, Bool, true, false, not, cond, ltb, List, length, Option, Some, None, refl}
use Rattle.std.proofs.Common.{ap, ◌∙◌, arith, unwrap_or}
use Rattle.std.specs.List.{position_or_len}
use Rattle.std.proofs.lemmas.Bool.Decides.{nat_tests}
use Rattle.std.proofs.lemmas.List.Sums.{prefix_len-le-length}

chosen : (n m : ℕ) (b : Bool) → ltb n m ≡ b → n ≤ m → unwrap_or (cond b (Some n) None) m ≡ n
chosen n m true t le = refl
chosen n m false t le = grind (arith, nat_tests)

-- the first offset that passes, or the length
pub first_or_length : (p : ℕ → Bool) (xs : List ℕ) (r : Option ℕ) → r ≡ cond (ltb (position_or_len p xs) (length xs)) (Some (position_or_len p xs)) None
    → unwrap_or r (length xs) ≡ position_or_len p xs
first_or_length p xs r e =
    ap (λ o. unwrap_or o (length xs)) e ∙ chosen (position_or_len p xs) (length xs) (ltb (position_or_len p xs) (length xs)) refl (prefix_len-le-length (λ x. not (p x)) xs)

pub within_length : (p : ℕ → Bool) (xs : List ℕ) (n : ℕ) → n ≡ position_or_len p xs → n ≤ length xs
within_length p xs n e = let le = prefix_len-le-length (λ x. not (p x)) xs in omega arith
