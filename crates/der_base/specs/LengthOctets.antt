-- Length octets at the front of a list, by DER and by BER (X.690 8.1.3 and 10.1).
use Rattle.std.specs.Prelude.{◌≡◌, ℕ, ◌+◌, ◌^◌, ◌<◌, ◌≤◌, Bool, true, List, [], ◌∷◌, ◌++◌, length}
use Rattle.der_base.specs.declared.header.Length.{Length}
use Rattle.der_base.specs.declared.header.Length.TheVariants.{Definite, Indefinite}
use Rattle.der_base.specs.Octets.{SpellsLength, shortest_length}

-- s begins with a length in its shortest octets (10.1), and rest follows
pub record BeginsWithDerLength (s : List ℕ) (n : ℕ) (rest : List ℕ) : Type 0 where
  pub octets : s ≡ shortest_length n ++ rest
  pub length : n < 2 ^ 64

-- s begins with a length after an identifier that is constructed or not, and rest follows: a definite one in any
-- octets that spell it, or the octet of the indefinite form, where constructed (8.1.3.2)
abbrev pub BeginsWithLength : List ℕ → Bool → Length → List ℕ → Type 0
BeginsWithLength s p (Definite n) rest = (w : List ℕ) × SpellsLength w n × (s ≡ w ++ rest)
BeginsWithLength s p Indefinite rest = (p ≡ true) × (s ≡ 128 ∷ rest)

-- How many octets s lacks where it ends before or within a length, whose size is any: one before it, and then those
-- that are announced and missing.
pub data LengthLacks : List ℕ → ℕ → Type 0 where
  before_length : {s : List ℕ} {n : ℕ} → s ≡ [] → n ≡ 1 → LengthLacks s n
  in_length : {s : List ℕ} {n : ℕ} (b : ℕ) (bs : List ℕ)
      → b < 255 → 1 ≤ n → 128 + length bs + n ≡ b
      → s ≡ b ∷ bs → LengthLacks s n

-- the first octet b announces the octets w of a number, and rest follows them (8.1.3.5)
pub record Announces (b : ℕ) (behind w rest : List ℕ) : Type 0 where
  pub octets : behind ≡ w ++ rest
  pub count : 128 + length w ≡ b
  pub not_reserved : b < 255
