-- Laws of what is written.
use Rattle.std.specs.Prelude.{◌≡◌, ℕ, List}
use Rattle.der_canon.specs.Sizes.{IsSizeOf}

-- DER has one number of octets for an input, so a buffer of any size is told the same
abbrev pub SizesOnce : Type 0
SizesOnce = (i : List ℕ) (n m : ℕ) → IsSizeOf i n → IsSizeOf i m → n ≡ m
