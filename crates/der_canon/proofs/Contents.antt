-- Octets of bits.
use Rattle.std.proofs.Common.{◌≡◌, ℕ, List, [], ◌∷◌, ◌++◌, ◌-◌, ◌%◌, ◌^◌, ◌<◌, ◌≤◌, min, refl, sym, ap, subst, arith}
use Rattle.std.proofs.Math.Nat.{mod-eq_of_lt}
use Rattle.std.proofs.Math.Pow.{pow_mono}
use Rattle.der_base.specs.Leaf.{HasZeroUnusedBits}
use Rattle.der_writer.specs.Octets.{cleared}
use Rattle.der_writer.proofs.Bits.{bits_strict}

pub cleared_last : (u b : ℕ) (bs : List ℕ) → cleared u (bs ++ b ∷ []) ≡ bs ++ (b - b % 2 ^ u) ∷ []
cleared_last u b [] = refl
cleared_last u b (x ∷ []) = refl
cleared_last u b (x ∷ y ∷ bs) = ap (λ v. x ∷ v) (cleared_last u b (y ∷ bs))

pub all_cleared : (u b : ℕ) → 8 ≤ u → b < 256 → 0 ≡ b - b % 2 ^ u
all_cleared u b h l =
    let p : 2 ^ 8 ≤ 2 ^ u = pow_mono h in
    let e : b % 2 ^ u ≡ b = mod-eq_of_lt (omega arith) in
    omega (arith, e)

pub none_cleared : (u : ℕ) (w : List ℕ) → cleared u w ≡ [] → w ≡ []
none_cleared u [] k = refl
none_cleared u (b ∷ []) k = absurd (cc)
none_cleared u (b ∷ c ∷ w) k = absurd (cc)

-- unused bits that are cleared are 0
pub cleared_zero : (u : ℕ) (w : List ℕ) → u ≤ 7 → (w ≡ [] → u ≡ 0) → HasZeroUnusedBits u (cleared u w)
cleared_zero u [] few none = none refl
cleared_zero u (b ∷ w) few none =
    let (k, v, is, zero) = bits_strict u (b ∷ w) in
    let n : min u 7 ≡ u = omega arith in
    let e : min u 7 ≡ k = cc in
    let f : cleared (min u 7) (b ∷ w) ≡ v = cc in
    subst (λ z. HasZeroUnusedBits z (cleared z (b ∷ w))) n (subst (λ l. HasZeroUnusedBits (min u 7) l) (sym f) (subst (λ z. HasZeroUnusedBits z v) (sym e) zero))
