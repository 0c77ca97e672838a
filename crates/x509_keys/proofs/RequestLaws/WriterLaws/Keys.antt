-- Octets whose bits are all used.
use Rattle.std.proofs.Common.{◌≡◌, ℕ, ◌-◌, ◌%◌, List, [], ◌∷◌, ◌++◌, refl, ap, arith}
use Rattle.der_base.specs.declared.header.Class.TheVariants.{Universal}
use Rattle.der_writer.specs.Fields.{primitive, BitString}
use Rattle.der_writer.specs.Octets.{bit_octets, cleared}

none_cleared : (w : List ℕ) → cleared 0 w ≡ w
none_cleared [] = refl
none_cleared (b ∷ []) = let same : b - b % 1 ≡ b = omega arith in ap (λ x. x ∷ []) same
none_cleared (b ∷ c ∷ w) = ap (λ x. b ∷ x) (none_cleared (c ∷ w))

all_bits : (w : List ℕ) → bit_octets 0 w ≡ 0 ∷ w
all_bits [] = refl
all_bits (b ∷ w) = ap (λ x. 0 ∷ x) (none_cleared (b ∷ w))

pub whole_bits : (e w : List ℕ) → e ++ primitive Universal 3 (bit_octets 0 w) ≡ e ++ BitString 0 w
whole_bits e w = ap (λ x. e ++ primitive Universal 3 x) (all_bits w)
