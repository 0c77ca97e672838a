-- Numbers of versions.
use Rattle.std.proofs.Common.{◌≡◌, ◌≢◌, ℕ, inl, inr}
use Rattle.std.specs.Prelude.{pos}
use Rattle.x509.specs.Certificates.{IsLaterNumber}

-- any other number is none of a later version
pub not_later : (n : ℕ) → n ≢ 1 → n ≢ 2 → ¬ IsLaterNumber (pos n)
not_later n a b (inl e) = let q : n ≡ 1 = cc in a q
not_later n a b (inr e) = let q : n ≡ 2 = cc in b q
