-- The parts after the minutes of a time, one after another, each with what follows it.
use Rattle.std.specs.Prelude.{◌≡◌, ℕ, ◌<◌, ◌⊎◌, Option, Some, None, List, [], ◌∷◌, ◌++◌, codes}
use Rattle.der_base.specs.declared.time.ASN1TimeZone.{ASN1TimeZone}
use Rattle.der_base.specs.declared.time.ASN1TimeZone.TheVariants.{Undefined}
use Rattle.der_base.specs.Time.{two_digits, IsDigit, IsZone, IsFraction}

-- the first octet, where there is one, is none of these
abbrev pub BeginsWithNo : (ℕ → Type 0) → List ℕ → Type 0
BeginsWithNo P [] = Unit {0}
BeginsWithNo P (b ∷ w) = ¬ P b

-- the mark in front of a fraction, a point or a comma
abbrev pub IsMark : ℕ → Type 0
IsMark b = (b ≡ 0x2E) ⊎ (b ≡ 0x2C)

-- seconds, or none if the octets begin with no digit
abbrev pub BeginsWithSeconds : List ℕ → Option ℕ → List ℕ → Type 0
BeginsWithSeconds w None rest = BeginsWithNo IsDigit w × (w ≡ rest)
BeginsWithSeconds w (Some n) rest = (n < 60) × (w ≡ two_digits n ++ rest)

-- a fraction with all its digits, in nanoseconds, or none if the octets begin with no mark
abbrev pub BeginsWithFraction : List ℕ → Option ℕ → List ℕ → Type 0
BeginsWithFraction w None rest = BeginsWithNo IsMark w × (w ≡ rest)
BeginsWithFraction w (Some n) rest = (fraction : List ℕ) × IsFraction fraction n × BeginsWithNo IsDigit rest
    × (w ≡ fraction ++ rest)

-- seconds, which may have a fraction after them
abbrev pub BeginsWithFineSeconds : List ℕ → ℕ → Option ℕ → List ℕ → Type 0
BeginsWithFineSeconds w n nanosecond rest = ((n ≡ 0) × (nanosecond ≡ None) × BeginsWithSeconds w None rest)
    ⊎ ((behind : List ℕ) × BeginsWithSeconds w (Some n) behind × BeginsWithFraction behind nanosecond rest)

-- a zone, or none where nothing is left
abbrev pub IsLastZone : List ℕ → ASN1TimeZone → Type 0
IsLastZone w zone = ((w ≡ []) × (zone ≡ Undefined)) ⊎ IsZone w zone

-- after the seconds, a comma, or a fraction that ends in 0 before the Z
abbrev pub IsLooseEnd : List ℕ → Type 0
IsLooseEnd w = ((f : List ℕ) × (w ≡ codes "," ++ f)) ⊎ ((f : List ℕ) × (w ≡ codes "." ++ (f ++ codes "0Z")))
