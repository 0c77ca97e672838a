-- Octets and groups of a number, one more at the end, and how many there are.
use Rattle.std.proofs.Common.{◌≡◌, ℕ, zero, suc, ◌+◌, ◌-◌, ◌*◌, ◌/◌, ◌%◌, ◌^◌, ◌<◌, ◌≤◌, Bool, List, [], ◌∷◌, ◌++◌, length, take, drop, refl, sym, ap, subst, ◌∙◌, arith, length-append}
use Rattle.std.proofs.Math.Nat.{pow-suc, pow-le-pow_right, div-div-eq-div-mul}
use Rattle.std.proofs.lemmas.Nat.{leading_length, leading_le, pow-add}
use Rattle.std.proofs.lemmas.List.{take_all}
use Rattle.std.specs.Int.{w64, byte_at, bytes_high_first, to_be_bytes}
use Rattle.std.specs.Int.Count.{count_leading_zeros, leading_of_zero}
use Rattle.der_base.specs.declared.header.Class.{Class}
use Rattle.der_base.specs.Octets.{octets_before, octets, groups_before, groups, identifier}
use Rattle.der_base.proofs.Octets.Identifiers.{identifier_short, identifier_long}

octets_fuel : (m k n : ℕ) (a b : List ℕ) → n ≤ m → n ≤ k → octets_before m n (a ++ b) ≡ octets_before k n a ++ b
octets_fuel zero zero n a b hm hk = refl
octets_fuel zero (suc k) zero a b hm hk = refl
octets_fuel zero (suc k) (suc n) a b hm hk = absurd (omega arith)
octets_fuel (suc m) zero zero a b hm hk = refl
octets_fuel (suc m) zero (suc n) a b hm hk = absurd (omega arith)
octets_fuel (suc m) (suc k) zero a b hm hk = refl
octets_fuel (suc m) (suc k) (suc n) a b hm hk = octets_fuel m k (suc n / 256) ((suc n % 256) ∷ a) b (omega arith) (omega arith)

-- the octets of a number end in its lowest one
pub octets_more : (n : ℕ) → 0 < n → octets n ≡ octets (n / 256) ++ (n % 256) ∷ []
octets_more zero h = absurd (omega arith)
octets_more (suc n) h = octets_fuel n (suc n / 256) (suc n / 256) [] ((suc n % 256) ∷ []) (omega arith) (omega arith)

pub octets_count : (n : ℕ) → 0 < n → length (octets n) ≡ length (octets (n / 256)) + 1
octets_count n h = ap length (octets_more n h) ∙ length-append (octets (n / 256)) ((n % 256) ∷ [])

-- a number below 256^k has at most k octets
pub octets_few : (k n : ℕ) → n < 256 ^ k → length (octets n) ≤ k
octets_few zero zero h = omega arith
octets_few zero (suc n) h = absurd (omega arith)
octets_few (suc k) zero h = omega arith
octets_few (suc k) (suc n) h =
    let q : suc n / 256 < 256 ^ k = omega (arith, pow-suc 256 k) in
    omega (arith, octets_count (suc n) (omega arith), octets_few k (suc n / 256) q)

-- and one from 256^k on more
pub octets_many : (k n : ℕ) → 256 ^ k ≤ n → k < length (octets n)
octets_many zero n h = omega (arith, octets_count n (omega arith))
octets_many (suc k) n h =
    let q : 256 ^ k ≤ n / 256 = omega (arith, pow-suc 256 k) in
    let p : 0 < n = omega (arith, pow-suc 256 k, pow-le-pow_right {n = 256} (omega arith) {i = 0} {j = k} (omega arith)) in
    omega (arith, octets_count n p, octets_many k (n / 256) q)

pub powers : (k : ℕ) → 256 ^ k ≡ 2 ^ (8 * k)
powers zero = refl
powers (suc k) =
    let e : 8 * suc k ≡ 8 * k + 8 = omega arith in
    let p : 2 ^ (8 * k + 8) ≡ 2 ^ (8 * k) * 256 = pow-add 2 (8 * k) 8 in
    pow-suc 256 k ∙ ap (λ q. q * 256) (powers k) ∙ sym p ∙ ap (λ j. 2 ^ j) (sym e)

between : (j m n : ℕ) → n < 2 ^ m → 2 ^ m ≤ 2 * n + 1 → m ≤ 8 * suc j → 8 * j < m → length (octets n) ≡ suc j
between j m n below above most least =
    let high : 2 ^ m ≤ 256 ^ suc j = subst (λ q. 2 ^ m ≤ q) (sym (powers (suc j))) (pow-le-pow_right {n = 2} (omega arith) {i = m} {j = 8 * suc j} most) in
    let low : 2 ^ suc (8 * j) ≤ 2 ^ m = pow-le-pow_right {n = 2} (omega arith) {i = suc (8 * j)} {j = m} (omega arith) in
    let half : 2 * 256 ^ j ≤ 2 ^ m = omega (arith, low, pow-suc 2 (8 * j), powers j) in
    omega (arith, octets_few (suc j) n (omega arith), octets_many j n (omega arith))

-- the number of octets, by the zero bits in front in 64
pub octets_leading : (n : ℕ) → n < 2 ^ 64 → length (octets n) ≡ 8 - count_leading_zeros 64 n / 8
octets_leading zero h = sym (ap (λ z. 8 - z / 8) (leading_of_zero 64))
octets_leading (suc n) h = go (count_leading_zeros 64 (suc n)) (leading_length 64 (suc n) h)
  where
    go : (z : ℕ) → (m : ℕ) × (z + m ≡ 64) × (suc n < 2 ^ m) × (2 ^ m ≤ 2 * suc n + 1) → length (octets (suc n)) ≡ 8 - z / 8
    go z (zero, e, below, above) = absurd (omega (arith, below))
    go z (suc m, e, below, above) =
        let s : z / 8 ≤ 7 = omega (arith, e) in
        between (7 - z / 8) (suc m) (suc n) below above (omega (arith, e, s)) (omega (arith, e, s)) ∙ omega (arith, s)

byte_below : (k n : ℕ) → byte_at (suc k) n ≡ byte_at k (n / 256)
byte_below zero n = refl
byte_below (suc k) n =
    let p : 256 ^ suc (suc k) ≡ 256 * 256 ^ suc k = omega (arith, pow-suc 256 (suc k)) in
    ap (λ q. n / q % 256) p ∙ ap (λ q. q % 256) (sym (div-div-eq-div-mul n 256 (256 ^ suc k)))

bytes_more : (k n : ℕ) → bytes_high_first (suc k) n ≡ bytes_high_first k (n / 256) ++ (n % 256) ∷ []
bytes_more zero n = refl
bytes_more (suc k) n = ap (λ b. b ∷ bytes_high_first (suc k) n) (byte_below k n) ∙ ap (λ l. byte_at k (n / 256) ∷ l) (bytes_more k n)

no_octets : (n : ℕ) → length (octets n) ≡ 0 → octets n ≡ []
no_octets zero e = refl
no_octets (suc n) e = absurd (omega (arith, octets_count (suc n) (omega arith)))

octets_are_bytes : (k n : ℕ) → length (octets n) ≡ k → bytes_high_first k n ≡ octets n
octets_are_bytes zero n e = sym (no_octets n e)
octets_are_bytes (suc k) zero e = absurd (omega (arith, e))
octets_are_bytes (suc k) (suc n) e =
    let d = octets_count (suc n) (omega arith) in
    bytes_more k (suc n) ∙ ap (λ l. l ++ (suc n % 256) ∷ []) (octets_are_bytes k (suc n / 256) (omega (arith, e, d))) ∙ sym (octets_more (suc n) (omega arith))

low_bytes : (z k m n : ℕ) → m ≡ z + k → drop z (bytes_high_first m n) ≡ bytes_high_first k n
low_bytes zero k m n e = ap (λ j. bytes_high_first j n) (e ∙ omega arith)
low_bytes (suc z) k zero n e = absurd (omega (arith, e))
low_bytes (suc z) k (suc m) n e = low_bytes z k m n (omega (arith, e))

-- the octets of a number are its eight bytes without the zero bytes in front
pub octets_from_bytes : (n : ℕ) (bytes : List ℕ) → n < 2 ^ 64 → bytes ≡ to_be_bytes w64 n
    → take (8 - count_leading_zeros 64 n / 8) (drop (count_leading_zeros 64 n / 8) bytes) ≡ octets n
octets_from_bytes n bytes h e =
    let z = count_leading_zeros 64 n / 8 in
    let k = octets_leading n h in
    let most = leading_le 64 n in
    let low = ap (drop z) e ∙ low_bytes z (length (octets n)) 8 n (omega arith) ∙ octets_are_bytes (length (octets n)) n refl in
    ap (take (8 - z)) low ∙ take_all (8 - z) (octets n) (omega arith)

groups_fuel : (m k n : ℕ) (after : List ℕ) → n ≤ m → n ≤ k → groups_before m n after ≡ groups_before k n after
groups_fuel zero zero n after hm hk = refl
groups_fuel zero (suc k) zero after hm hk = refl
groups_fuel zero (suc k) (suc n) after hm hk = absurd (omega arith)
groups_fuel (suc m) zero zero after hm hk = refl
groups_fuel (suc m) zero (suc n) after hm hk = absurd (omega arith)
groups_fuel (suc m) (suc k) zero after hm hk = refl
groups_fuel (suc m) (suc k) (suc n) after hm hk = groups_fuel m k (suc n / 128) ((128 + suc n % 128) ∷ after) (omega arith) (omega arith)

-- the lowest group moves behind the others
pub groups_step : (n : ℕ) (after : List ℕ) → 0 < n → groups_before n n after ≡ groups_before (n / 128) (n / 128) ((128 + n % 128) ∷ after)
groups_step zero after h = absurd (omega arith)
groups_step (suc n) after h = groups_fuel n (suc n / 128) (suc n / 128) ((128 + suc n % 128) ∷ after) (omega arith) (omega arith)

pub groups_start : (n : ℕ) → groups n ≡ groups_before (n / 128) (n / 128) ((n % 128) ∷ [])
groups_start n = groups_fuel n (n / 128) (n / 128) ((n % 128) ∷ []) (omega arith) (omega arith)

groups_put : (k n : ℕ) (after : List ℕ) → 128 ^ k ≤ n → n < 128 ^ suc k → length (groups_before n n after) ≡ suc k + length after
groups_put zero n after least most =
    let e : n / 128 ≡ 0 = omega arith in
    ap length (groups_step n after (omega arith)) ∙ ap (λ q. length (groups_before q q ((128 + n % 128) ∷ after))) e ∙ omega arith
groups_put (suc k) n after least most =
    let low : 128 ^ k ≤ n / 128 = omega (arith, pow-suc 128 k) in
    let high : n / 128 < 128 ^ suc k = omega (arith, pow-suc 128 (suc k)) in
    let some : 0 < n = omega (arith, pow-suc 128 k, pow-le-pow_right {n = 128} (omega arith) {i = 0} {j = k} (omega arith)) in
    ap length (groups_step n after some) ∙ groups_put k (n / 128) ((128 + n % 128) ∷ after) low high ∙ omega arith

pub groups_one : (n : ℕ) → n < 128 → length (groups n) ≡ 1
groups_one n h =
    let e : n / 128 ≡ 0 = omega arith in
    ap length (groups_start n) ∙ ap (λ q. length (groups_before q q ((n % 128) ∷ []))) e

-- a number from 128^k on has more than k groups
pub groups_count : (k n : ℕ) → 128 ^ suc k ≤ n → n < 128 ^ suc (suc k) → length (groups n) ≡ suc (suc k)
groups_count k n least most =
    let low : 128 ^ k ≤ n / 128 = omega (arith, pow-suc 128 k) in
    let high : n / 128 < 128 ^ suc k = omega (arith, pow-suc 128 (suc k)) in
    ap length (groups_start n) ∙ groups_put k (n / 128) ((n % 128) ∷ []) low high ∙ omega arith

pub identifier_short_length : (c : Class) (p : Bool) (t : ℕ) → t < 31 → length (identifier c p t) ≡ 1
identifier_short_length c p t h = ap length (identifier_short c p t h)

pub identifier_long_length : (c : Class) (p : Bool) (t : ℕ) → 31 ≤ t → length (identifier c p t) ≡ length (groups t) + 1
identifier_long_length c p t h = ap length (identifier_long c p t h) ∙ omega arith
