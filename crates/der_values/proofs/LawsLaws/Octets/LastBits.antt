-- The bits that the number of the octets has last are those of the last octet.
use Rattle.std.proofs.Common.{◌≡◌, ℕ, zero, suc, List, [], ◌∷◌, ◌+◌, ◌*◌, ◌-◌, ◌%◌, ◌^◌, ◌≤◌, refl, sym, ◌∙◌, arith, length}
use Rattle.std.specs.Prelude.{slice_index}
use Rattle.der_base.specs.Octets.{number_from}
use Rattle.der_base.specs.Leaf.{HasZeroUnusedBits}
use Rattle.der_base.specs.Laws.{HasZeroLastBits, UnusedBitsAreLast}

low_bits : (u x b : ℕ) → u ≤ 7 → (x * 256 + b) % 2 ^ u ≡ b % 2 ^ u
low_bits zero x b h = omega arith
low_bits (suc zero) x b h = omega arith
low_bits (suc (suc zero)) x b h = omega arith
low_bits (suc (suc (suc zero))) x b h = omega arith
low_bits (suc (suc (suc (suc zero)))) x b h = omega arith
low_bits (suc (suc (suc (suc (suc zero))))) x b h = omega arith
low_bits (suc (suc (suc (suc (suc (suc zero)))))) x b h = omega arith
low_bits (suc (suc (suc (suc (suc (suc (suc zero))))))) x b h = omega arith
low_bits (suc (suc (suc (suc (suc (suc (suc (suc u)))))))) x b h = absurd (omega arith)

last_bits : (u n b : ℕ) (bs : List ℕ) → u ≤ 7 → number_from n (b ∷ bs) % 2 ^ u ≡ slice_index (b ∷ bs) (length bs) % 2 ^ u
last_bits u n b [] h = low_bits u n b h
last_bits u n b (c ∷ bs) h = last_bits u (n * 256 + b) c bs h

one_less : (b : ℕ) (bs : List ℕ) → length (b ∷ bs) - 1 ≡ length bs
one_less b bs = omega arith

pub unused_from_last : (u : ℕ) (w : List ℕ) → HasZeroLastBits u w → HasZeroUnusedBits u w
unused_from_last u [] h = h.1 refl
unused_from_last u (b ∷ bs) h = (h.0, last_bits u 0 b bs h.0 ∙ (rw (one_less b bs) at h.2))

pub last_from_unused : (u : ℕ) (w : List ℕ) → HasZeroUnusedBits u w → HasZeroLastBits u w
last_from_unused u [] h = (omega arith, (λ e. h), rw h refl)
last_from_unused u (b ∷ bs) h = (h.0, (λ e. cc), rw (one_less b bs) (sym (last_bits u 0 b bs h.0) ∙ h.1))

pub unused_is_last : UnusedBitsAreLast
unused_is_last u w = (last_from_unused u w, unused_from_last u w)
