-- A number and its magnitude, where it is negative, fill up a power of 256.
use Rattle.std.proofs.Common.{◌≡◌, ℕ, zero, suc, ◌+◌, ◌*◌, ◌^◌, ◌<◌, ◌≤◌, List, [], ◌∷◌, ◌++◌, length, refl, sym, ap, ◌∙◌, subst, arith, pos, negsuc, ⊎_elim}
use Rattle.std.specs.Prelude.{◌-ℤ◌, ◌<ℤ◌, nat_abs}
use Rattle.std.proofs.lemmas.Bool.{cases_lt}
use Rattle.std.proofs.lemmas.Int.{ints}
use Rattle.std.proofs.Math.Nat.{pow-suc, add-mul, mul_assoc, mul_comm}
use Rattle.der_base.specs.Octets.{integer_value, number, number_from}
use Rattle.der_base.proofs.AllByRecursion.{Each}
use Rattle.der_base.proofs.Octets.MinimalIntegers.{high_value, low_value}
use Rattle.der_base.proofs.Octets.Shortest.{IsOctet}
use Rattle.der_base.proofs.Octets.ShortestLengths.{number_grows}

-- one octet more at the end, and in front

pub at_end : (n : ℕ) (w : List ℕ) (b : ℕ) → number_from n (w ++ b ∷ []) ≡ number_from n w * 256 + b
at_end n [] b = refl
at_end n (c ∷ w) b = at_end (n * 256 + c) w b

after : (n : ℕ) (w : List ℕ) → number_from n w ≡ n * 256 ^ length w + number w
after n [] = omega arith
after n (b ∷ w) =
    let p = 256 ^ length w in
    let power : 256 ^ suc (length w) ≡ 256 * p = pow-suc 256 (length w) ∙ mul_comm p 256 in
    let all : n * 256 ^ suc (length w) ≡ n * 256 * p = ap (λ x. n * x) power ∙ sym (mul_assoc n 256 p) in
    let one : (0 * 256 + b) * p ≡ b * p = ap (λ x. x * p) (omega arith) in
    omega (arith, all, one, after (n * 256 + b) w, after (0 * 256 + b) w, add-mul (n * 256) b p)

pub in_front : (b : ℕ) (w : List ℕ) → number (b ∷ w) ≡ b * 256 ^ length w + number w
in_front b w = after (0 * 256 + b) w ∙ ap (λ x. x * 256 ^ length w + number w) (omega arith)

pub none : (w : List ℕ) → length w ≡ 0 → number w ≡ 0
none [] e = refl
none (b ∷ w) e = absurd (omega arith)

-- the octet x is 0 less b and what was borrowed, and what is borrowed now is c
pub one_less : (m b borrowed x c p n v : ℕ) → x + b + borrowed ≡ c * 256 → (m * 256 + b + borrowed) * p ≡ n + v
    → (m + c) * (p * 256) ≡ n + (x * p + v)
one_less m b borrowed x c p n v e h =
    let turned : (m + c) * (p * 256) ≡ (m + c) * 256 * p = ap (λ k. (m + c) * k) (mul_comm p 256) ∙ sym (mul_assoc (m + c) 256 p) in
    let parts : (m + c) * 256 ≡ m * 256 + b + borrowed + x = omega (arith, e) in
    turned ∙ ap (λ k. k * p) parts ∙ add-mul (m * 256 + b + borrowed) x p ∙ omega (arith, h)

-- the magnitude of a negative number

difference : (x v p : ℕ) → p ≡ x + v → (pos x -ℤ pos p) <ℤ pos 0 → nat_abs (pos x -ℤ pos p) ≡ v
difference x zero p e h = absurd (omega (arith, ints, e, h))
difference x (suc v) p e h =
    let n : pos x -ℤ pos p ≡ negsuc v = omega (arith, ints, e) in
    ap nat_abs n

pub magnitude : (w v : List ℕ) (borrowed : ℕ) → Each IsOctet w → integer_value w <ℤ pos 0 → borrowed ≤ 1
    → borrowed * 256 ^ length w ≡ number w + number v → number v ≡ nat_abs (integer_value w)
magnitude [] v borrowed are h one e = absurd (omega (arith, ints, h))
magnitude (b ∷ w) v borrowed are h one e = ⊎_elim
    (λ l. absurd (omega (arith, ints, low_value b w l, h)))
    (λ l.
    let value : integer_value (b ∷ w) ≡ pos (number (b ∷ w)) -ℤ pos (256 ^ suc (length w)) = high_value b w l in
    let some : 0 * 256 + b ≤ number (b ∷ w) = number_grows (0 * 256 + b) w in
    sym (ap nat_abs value ∙ difference (number (b ∷ w)) (number v) (256 ^ suc (length w)) (full borrowed one e (omega (arith, some, l))) (subst (λ z. z <ℤ pos 0) value h)))
    (cases_lt b 128)
  where
    full : (c : ℕ) → c ≤ 1 → c * 256 ^ length (b ∷ w) ≡ number (b ∷ w) + number v → 0 < number (b ∷ w)
        → 256 ^ suc (length w) ≡ number (b ∷ w) + number v
    full zero o f some = absurd (omega (arith, f, some))
    full (suc zero) o f some = omega (arith, f)
    full (suc (suc c)) o f some = absurd (omega arith)
