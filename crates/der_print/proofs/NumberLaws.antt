-- The text of a number.
use Rattle.std.proofs.Common.{◌≡◌, ◌⊎◌, ℕ, ◌+◌, ◌*◌, ◌/◌, ◌%◌, ◌-◌, ◌<◌, ◌≤◌, ◌^◌, suc, zero, false, ℤ, ◌<ℤ◌, neg_ℤ, pos, negsuc, List, [], ◌∷◌, ◌++◌, codes, decimal, length, length-append, nat_lt, refl, arith}
use Rattle.std.proofs.lemmas.Bool.Decides.{nat_tests}
use Rattle.std.proofs.lemmas.Fmt.{decimal_by_steps, length-decimal-le}
use Rattle.std.specs.Fmt.{digits}
use Rattle.der_print.specs.declared.style.Limit.{Limit}
use Rattle.der_print.specs.Cuts.{limit_without}
use Rattle.der_print.specs.Values.{hex_text, text_of_number}

pub below_text : (limit : Limit) (w : List ℕ) (n : ℕ) → 2 ^ 63 ≤ n
    → text_of_number limit w (negsuc n) ≡ codes "0x" ++ hex_text (limit_without limit 34) w ++ codes " (negative, in two's complement)"
below_text limit w n h = let e : nat_lt n (2 ^ 63) ≡ false = grind (arith, nat_tests) in rw e refl

-- a negative number that doesn't fit 64 bits
pub negative_text : (limit : Limit) (w : List ℕ) (v : ℤ) → v <ℤ pos 0 → (v <ℤ neg_ℤ (pos (2 ^ 63))) ⊎ (pos (2 ^ 63 - 1) <ℤ v)
    → text_of_number limit w v ≡ codes "0x" ++ hex_text (limit_without limit 34) w ++ codes " (negative, in two's complement)"
negative_text limit w (pos n) negative out = grind arith
negative_text limit w (negsuc n) negative out = below_text limit w n (grind arith)

power_some : (j : ℕ) → 0 < 10 ^ j
power_some zero = omega arith
power_some (suc j) = omega (arith, power_some j)

one_digit : (n : ℕ) → n < 10 → (j : ℕ) → 10 ^ j ≤ n → j < 1
one_digit n small zero below = omega arith
one_digit n small (suc j) below = omega (arith, power_some j)

one_more_digit : (n : ℕ) (ds : List ℕ) → 10 ≤ n → ((j : ℕ) → 10 ^ j ≤ n / 10 → j < length ds) → (j : ℕ) → 10 ^ j ≤ n
    → j < length (ds ++ ((48 + n % 10) ∷ []))
one_more_digit n ds large more zero below = omega (arith, length-append ds ((48 + n % 10) ∷ []))
one_more_digit n ds large more (suc j) below = omega (arith, length-append ds ((48 + n % 10) ∷ []), more j (omega arith))

-- a number between two powers of ten
pub digits_between : (n j : ℕ) → n < 2 ^ 64 → 10 ^ j ≤ n → n < 10 * 10 ^ j → j + 1 ≡ length (decimal n)
digits_between n j small from below =
    let least = decimal_by_steps (λ m ds. (k : ℕ) → 10 ^ k ≤ m → k < length ds) one_digit one_more_digit n small j from in
    let most = length-decimal-le (suc j) n (omega arith) (omega arith) small in
    omega arith

pub digits_of_none : 1 ≡ length (decimal 0)
unfolding digits
digits_of_none = refl
