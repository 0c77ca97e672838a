-- The forms of the content octets of a REAL (X.690 8.5; by DER 11.3).
use Rattle.std.specs.Prelude.{◌≡◌, ℕ, ◌+◌, ◌-◌, ◌%◌, ◌⊎◌, ◌==◌, if◌then◌else◌, List, [], ◌∷◌, length, take, drop}
use Rattle.std.specs.Prelude.{slice_get}
use Rattle.std.specs.Option.{IsSomeAnd}
use Rattle.der_base.specs.Time.{IsDigit}
use Rattle.der_contents.specs.Grammar.{IsSpace, IsPlus, IsMinus, IsSign, IsPoint, IsMark, IsZero, Ends}
use Rattle.der_contents.specs.Grammar.{BeginsWithNo, OneThen, MaybeThen, AnyThen, SomeThen, ToNonzeroThen}

-- the first octet is the number of those that follow
abbrev pub counted : List ℕ → ℕ × List ℕ
counted [] = (0, [])
counted (n ∷ w) = (n, w)

-- The number of octets of the exponent, and the octets that begin with it, behind the first octet a. Its lowest two
-- bits are that number less one, or are 3, and then the next octet is the number (8.5.7.4).
abbrev pub sized_exponent : ℕ → List ℕ → ℕ × List ℕ
sized_exponent a w = if a % 4 == 3 then counted w else (a % 4 + 1, w)

abbrev pub exponent_of : ℕ → List ℕ → List ℕ
exponent_of a w = take (sized_exponent a w).0 (sized_exponent a w).1

-- the mantissa is behind it (8.5.7.5)
abbrev pub mantissa_of : ℕ → List ℕ → List ℕ
mantissa_of a w = drop (sized_exponent a w).0 (sized_exponent a w).1

-- the last octet is odd
abbrev pub EndsOdd : List ℕ → Type 0
EndsOdd w = IsSomeAnd (slice_get w (length w - 1)) (λ b. b % 2 ≡ 1)

-- The decimal forms of ISO 6093, behind spaces and a sign (8.5.8).

-- NR1: digits
abbrev pub IsWhole : List ℕ → Type 0
IsWhole = SomeThen IsDigit Ends

-- NR2: digits with a mark
abbrev pub IsMarked : List ℕ → Type 0
IsMarked w = SomeThen IsDigit (OneThen IsMark (AnyThen IsDigit Ends)) w ⊎ OneThen IsMark IsWhole w

abbrev pub IsUpperE : ℕ → Type 0
IsUpperE b = b ≡ 0x45

abbrev pub IsExponentMark : ℕ → Type 0
IsExponentMark b = (b ≡ 0x45) ⊎ (b ≡ 0x65)

abbrev pub IsPower : List ℕ → Type 0
IsPower = OneThen IsExponentMark (MaybeThen IsSign IsWhole)

abbrev pub IsMarkedPower : List ℕ → Type 0
IsMarkedPower w = OneThen IsMark (AnyThen IsDigit IsPower) w ⊎ IsPower w

-- NR3: digits, which may have a mark, and a power of ten
abbrev pub IsScaled : List ℕ → Type 0
IsScaled w = SomeThen IsDigit IsMarkedPower w ⊎ OneThen IsMark (SomeThen IsDigit IsPower) w

-- the form of this number
abbrev pub IsOfForm : ℕ → List ℕ → Type 0
IsOfForm a w = ((a ≡ 1) × IsWhole w) ⊎ ((a ≡ 2) × IsMarked w) ⊎ ((a ≡ 3) × IsScaled w)

abbrev pub IsDecimal : ℕ → List ℕ → Type 0
IsDecimal a w = AnyThen IsSpace (MaybeThen IsSign (IsOfForm a)) w

-- The form NR3 by DER: neither the first nor the last digit in front of the point is 0, and the exponent has no
-- needless digit and no plus but in +0 (11.3.2).

abbrev pub IsStrictWhole : List ℕ → Type 0
IsStrictWhole w = BeginsWithNo IsZero w × IsWhole w

abbrev pub IsStrictExponent : List ℕ → Type 0
IsStrictExponent w = OneThen IsPlus (OneThen IsZero Ends) w ⊎ MaybeThen IsMinus IsStrictWhole w

abbrev pub IsStrictPower : List ℕ → Type 0
IsStrictPower = OneThen IsPoint (OneThen IsUpperE IsStrictExponent)

abbrev pub IsStrictMantissa : List ℕ → Type 0
IsStrictMantissa w = BeginsWithNo IsZero w × ToNonzeroThen IsStrictPower w

abbrev pub IsStrictDecimal : List ℕ → Type 0
IsStrictDecimal w = MaybeThen IsMinus IsStrictMantissa w
