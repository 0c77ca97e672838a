-- The sign of the number of content octets stands in the first bit (X.690 8.3.3).
use Rattle.std.proofs.Common.{◌≡◌, ℕ, ◌≤◌, List, [], ◌∷◌, length, pos, negsuc, arith, ⊎_elim}
use Rattle.std.specs.Prelude.{◌<ℤ◌, slice_index_or}
use Rattle.std.proofs.lemmas.Int.{ints}
use Rattle.std.proofs.lemmas.Bool.{cases_lt}
use Rattle.der_base.specs.Octets.{integer_value, number}
use Rattle.der_base.proofs.AllByRecursion.{Each}
use Rattle.der_base.proofs.Octets.MinimalIntegers.{turned, negative_value, low_value}
use Rattle.der_base.proofs.Octets.Shortest.{IsOctet}

pub below_zero : (w : List ℕ) → Each IsOctet w → 1 ≤ length w → 128 ≤ slice_index_or w 0 0 → integer_value w <ℤ pos 0
below_zero [] are some h = absurd (omega (arith, some))
below_zero (b ∷ w) are some h = rw (negative_value b w are h) (grind (arith, ints))

-- a number below 0, by the octets with each bit turned
pub turned_value : (w : List ℕ) → Each IsOctet w → integer_value w <ℤ pos 0 → integer_value w ≡ negsuc (number (turned w))
turned_value [] are h = absurd (omega (arith, ints))
turned_value (b ∷ w) are h = ⊎_elim (λ l. let e = low_value b w l in absurd (omega (arith, ints, e, h))) (λ l. negative_value b w are l) (cases_lt b 128)
