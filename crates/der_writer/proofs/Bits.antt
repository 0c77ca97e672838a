-- Octets whose last bits are 0.
use Rattle.std.proofs.Common.{◌≡◌, ℕ, zero, suc, ◌+◌, ◌*◌, ◌-◌, ◌%◌, ◌^◌, ◌≤◌, min, List, [], ◌∷◌, ◌++◌, length, refl, sym, ap, arith}
use Rattle.der_base.specs.Leaf.{HasZeroUnusedBits}
use Rattle.der_base.specs.Octets.{number_from}
use Rattle.der_writer.specs.Octets.{bit_octets, cleared}

-- the last octet alone changes
cleared_last : (u : ℕ) (w : List ℕ) (b : ℕ) → cleared u (w ++ b ∷ []) ≡ w ++ (b - b % 2 ^ u) ∷ []
cleared_last u [] b = refl
cleared_last u (a ∷ []) b = refl
cleared_last u (a ∷ c ∷ w) b = ap (λ l. a ∷ l) (cleared_last u (c ∷ w) b)

-- the content of a BIT STRING by its last octet and the others
pub bits_of : (u k b x : ℕ) (w front : List ℕ) → k ≡ min u 7 → x ≡ b - b % 2 ^ k → w ≡ front ++ b ∷ [] → k ∷ (front ++ x ∷ []) ≡ bit_octets u w
bits_of u k b x w [] few last e = rw (last, few, e) refl
bits_of u k b x w (a ∷ front) few last e = rw (last, few, e) (ap (λ l. min u 7 ∷ l) (sym (cleared_last (min u 7) (a ∷ front) b)))

pub no_bits : (u : ℕ) (w : List ℕ) → length w ≡ 0 → 0 ∷ [] ≡ bit_octets u w
no_bits u [] e = refl
no_bits u (b ∷ w) e = absurd (omega (arith, e))

-- an octet whose last bits are 0, behind others
last_zero : (k m b : ℕ) → k ≤ 7 → (m * 256 + (b - b % 2 ^ k)) % 2 ^ k ≡ 0
last_zero zero m b few = omega arith
last_zero (suc zero) m b few = omega arith
last_zero (suc (suc zero)) m b few = omega arith
last_zero (suc (suc (suc zero))) m b few = omega arith
last_zero (suc (suc (suc (suc zero)))) m b few = omega arith
last_zero (suc (suc (suc (suc (suc zero))))) m b few = omega arith
last_zero (suc (suc (suc (suc (suc (suc zero)))))) m b few = omega arith
last_zero (suc (suc (suc (suc (suc (suc (suc zero))))))) m b few = omega arith
last_zero (suc (suc (suc (suc (suc (suc (suc (suc k)))))))) m b few = absurd (omega arith)

low_zero : (k m b : ℕ) (w : List ℕ) → k ≤ 7 → number_from m (cleared k (b ∷ w)) % 2 ^ k ≡ 0
low_zero k m b [] few = last_zero k m b few
low_zero k m b (c ∷ w) few = low_zero k (m * 256 + b) c w few

has_zero : (k b : ℕ) (w : List ℕ) → k ≤ 7 → HasZeroUnusedBits k (cleared k (b ∷ w))
has_zero k b [] few = (few, low_zero k 0 b [] few)
has_zero k b (c ∷ w) few = (few, low_zero k (0 * 256 + b) c w few)

-- what is put is the content of a BIT STRING by DER
pub bits_strict : (u : ℕ) (w : List ℕ) → (k : ℕ) × (v : List ℕ) × (bit_octets u w ≡ k ∷ v) × HasZeroUnusedBits k v
bits_strict u [] = (0, [], refl, refl)
bits_strict u (b ∷ w) = (min u 7, cleared (min u 7) (b ∷ w), refl, has_zero (min u 7) b w (omega arith))
