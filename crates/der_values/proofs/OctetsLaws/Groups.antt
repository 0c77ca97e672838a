-- How many groups of seven bits a number has.
use Rattle.std.proofs.Common.{◌≡◌, ℕ, zero, suc, ◌+◌, ◌/◌, ◌%◌, ◌^◌, ◌<◌, ◌≤◌, List, [], ◌∷◌, length, ap, arith}
use Rattle.std.proofs.Math.Nat.{pow-suc}
use Rattle.der_base.specs.Octets.{groups_before, groups}
use Rattle.der_base.proofs.Octets.Numbers.{groups_start, groups_step}

few_before : (k n : ℕ) (after : List ℕ) → n < 128 ^ k → length (groups_before n n after) ≤ k + length after
few_before zero n after h =
    let e : n ≡ 0 = omega (arith, h) in
    omega (arith, ap (λ m. length (groups_before m m after)) e)
few_before (suc k) zero after h = omega arith
few_before (suc k) (suc n) after h =
    let low : suc n / 128 < 128 ^ k = omega (arith, h, pow-suc 128 k) in
    omega (arith, few_before k (suc n / 128) ((128 + suc n % 128) ∷ after) low, ap length (groups_step (suc n) after (omega arith)))

-- a number of 64 bits has at most ten
pub groups_few : (n : ℕ) → n < 2 ^ 64 → length (groups n) ≤ 10
groups_few n h =
    let low : n / 128 < 128 ^ 9 = omega (arith, h) in
    omega (arith, few_before 9 (n / 128) ((n % 128) ∷ []) low, ap length (groups_start n))
