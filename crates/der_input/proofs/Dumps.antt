-- The first of the offsets of a line that passes, by the offsets from a later one on.
use Rattle.std.proofs.Common.{◌≡◌, ℕ, suc, ◌+◌, ◌-◌, ◌<◌, Bool, true, false, cond, Option, Some, refl, ap, ◌∙◌, arith, unwrap_or}
use Rattle.std.specs.Prelude.{find}
use Rattle.std.specs.List.{range_with_len}

-- the first one from k on, or else n
abbrev pub first_from : (ℕ → Bool) → ℕ → ℕ → ℕ
first_from p k n = unwrap_or (find p (range_with_len k (n - k))) n

chosen : (b : Bool) (k n : ℕ) (o : Option ℕ) → unwrap_or (cond b (Some k) o) n ≡ cond b k (unwrap_or o n)
chosen true k n o = refl
chosen false k n o = refl

first_more : (p : ℕ → Bool) (k n : ℕ) → k < n → first_from p k n ≡ cond (p k) k (first_from p (k + 1) n)
first_more p k n small =
    let more : n - k ≡ suc (n - (k + 1)) = omega (arith, small) in
    ap (λ m. unwrap_or (find p (range_with_len k m)) n) more ∙ chosen (p k) k n (find p (range_with_len (k + 1) (n - (k + 1))))

pub first_none : (p : ℕ → Bool) (n : ℕ) → first_from p n n ≡ n
first_none p n =
    let none : n - n ≡ 0 = omega arith in
    ap (λ m. unwrap_or (find p (range_with_len n m)) n) none

pub here : (p : ℕ → Bool) (k n : ℕ) → k < n → p k ≡ true → first_from p k n ≡ k
here p k n small e = first_more p k n small ∙ ap (λ b. cond b k (first_from p (k + 1) n)) e

pub later : (p : ℕ → Bool) (k n : ℕ) → k < n → p k ≡ false → first_from p k n ≡ first_from p (k + 1) n
later p k n small e = first_more p k n small ∙ ap (λ b. cond b k (first_from p (k + 1) n)) e
