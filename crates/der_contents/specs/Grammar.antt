-- Texts by a grammar. Each part stands in front, and G is what follows it.
use Rattle.std.specs.Prelude.{◌≡◌, ℕ, ◌+◌, ◌-◌, ◌*◌, ◌≤◌, ◌⊎◌, Option, None, Some, List, [], ◌∷◌, length}
use Rattle.std.specs.Prelude.{take, drop, All}
use Rattle.std.specs.Borrow.{Bor}
use Rattle.der_base.specs.Time.{IsDigit}

-- characters
abbrev pub IsSpace : ℕ → Type 0
IsSpace b = b ≡ 0x20

abbrev pub IsPlus : ℕ → Type 0
IsPlus b = b ≡ 0x2B

abbrev pub IsMinus : ℕ → Type 0
IsMinus b = b ≡ 0x2D

abbrev pub IsSign : ℕ → Type 0
IsSign b = (b ≡ 0x2B) ⊎ (b ≡ 0x2D)

abbrev pub IsPoint : ℕ → Type 0
IsPoint b = b ≡ 0x2E

-- a point or a comma, in front of a fraction
abbrev pub IsMark : ℕ → Type 0
IsMark b = (b ≡ 0x2E) ⊎ (b ≡ 0x2C)

abbrev pub IsZero : ℕ → Type 0
IsZero b = b ≡ 0x30

-- nothing follows
abbrev pub Ends : List ℕ → Type 0
Ends w = w ≡ []

-- there is no octet, or the first is none of these
abbrev pub BeginsWithNo : (ℕ → Type 0) → List ℕ → Type 0
BeginsWithNo P [] = Unit {0}
BeginsWithNo P (b ∷ w) = ¬ P b

-- one of these octets
abbrev pub OneThen : (ℕ → Type 0) → (List ℕ → Type 0) → List ℕ → Type 0
OneThen P G w = (b : ℕ) × (v : List ℕ) × (w ≡ b ∷ v) × P b × G v

-- one of them, or none
abbrev pub MaybeThen : (ℕ → Type 0) → (List ℕ → Type 0) → List ℕ → Type 0
MaybeThen P G w = OneThen P G w ⊎ G w

-- any number of them
abbrev pub AnyThen : (ℕ → Type 0) → (List ℕ → Type 0) → List ℕ → Type 0
AnyThen P G [] = G []
AnyThen P G (b ∷ w) = G (b ∷ w) ⊎ (P b × AnyThen P G w)

-- one or more of them
abbrev pub SomeThen : (ℕ → Type 0) → (List ℕ → Type 0) → List ℕ → Type 0
SomeThen P G w = OneThen P (AnyThen P G) w

-- digits, of which the last isn't 0
abbrev pub ToNonzeroThen : (List ℕ → Type 0) → List ℕ → Type 0
ToNonzeroThen G [] = ⊥
ToNonzeroThen G (b ∷ w) = IsDigit b × ((¬ IsZero b × G w) ⊎ ToNonzeroThen G w)

-- two digits, which spell a number from low to high
abbrev pub NumberThen : ℕ → ℕ → (List ℕ → Type 0) → List ℕ → Type 0
NumberThen low high G w = (a b : ℕ) × (v : List ℕ) × (w ≡ a ∷ b ∷ v) × IsDigit a × IsDigit b
    × (low ≤ (a - 0x30) * 10 + (b - 0x30)) × ((a - 0x30) * 10 + (b - 0x30) ≤ high) × G v

-- What the functions return that pass over the front of a text.

-- what follows the front, or None where the text doesn't begin so
abbrev pub Strips : ((List ℕ → Type 0) → List ℕ → Type 0) → List ℕ → Option (Bor (List ℕ)) → Type 0
Strips F w None = (v : List ℕ) → ¬ F (λ u. u ≡ v) w
Strips F w (Some rest) = F (λ u. u ≡ rest.now) w

-- what follows one of these octets, or all where none is in front
abbrev pub SkipsOne : (ℕ → Type 0) → List ℕ → List ℕ → Type 0
SkipsOne P w rest = ((b : ℕ) × P b × (w ≡ b ∷ rest)) ⊎ (BeginsWithNo P w × (rest ≡ w))

-- what follows all of these octets that are in front, of which there are at least so many
abbrev pub Skips : ℕ → (ℕ → Type 0) → List ℕ → List ℕ → Type 0
Skips least P w rest = (k : ℕ) × (least ≤ k) × (k ≤ length w) × All P (take k w) × (rest ≡ drop k w)
    × BeginsWithNo P rest
