-- Octets of headers and numbers.
use Rattle.std.specs.Prelude.{ℕ, ◌-◌, ◌%◌, ◌^◌, ◌==◌, ◌&&◌, if◌then◌else◌, min, Bool, ℤ, pos, negsuc}
use Rattle.std.specs.Prelude.{List, [], ◌∷◌, ◌++◌, map, length}
use Rattle.std.specs.Int.{w8, trailing_zeros}
use Rattle.der_base.specs.declared.header.Class.{Class}
use Rattle.der_values.specs.declared.identifier.ObjectIdentifier.{ObjectIdentifier}
use Rattle.der_base.specs.Octets.{identifier, shortest_length, shortest_integer}

-- the octets of an element before its content
abbrev pub header : Class → Bool → ℕ → ℕ → List ℕ
header c p t n = identifier c p t ++ shortest_length n

-- the fewest octets of a number in two's complement (X.690 8.3.2): those of -1 - n are those of n with each bit turned
abbrev pub signed_integer : ℤ → List ℕ
signed_integer (pos n) = shortest_integer n
signed_integer (negsuc n) = map (λ b. 255 - b) (shortest_integer n)

-- the octets with the last u bits 0
abbrev pub cleared : ℕ → List ℕ → List ℕ
cleared u [] = []
cleared u (b ∷ []) = (b - b % 2 ^ u) ∷ []
cleared u (b ∷ c ∷ w) = b ∷ cleared u (c ∷ w)

-- The content of a BIT STRING of octets whose last u bits aren't used (8.6.2): at most seven, none where there is no
-- octet (8.6.2.3), and 0 (11.2.1).
abbrev pub bit_octets : ℕ → List ℕ → List ℕ
bit_octets u [] = 0 ∷ []
bit_octets u (b ∷ w) = min u 7 ∷ cleared (min u 7) (b ∷ w)

-- octets without those of 0 at their end
abbrev pub without_last_zeros : List ℕ → List ℕ
without_last_zeros [] = []
without_last_zeros (b ∷ w) = let rest = without_last_zeros w in if b == 0 && length rest == 0 then [] else b ∷ rest

-- how many of the last bits of the last octet are 0
abbrev pub last_zero_bits : List ℕ → ℕ
last_zero_bits [] = 0
last_zero_bits (b ∷ []) = trailing_zeros w8 b
last_zero_bits (b ∷ c ∷ w) = last_zero_bits (c ∷ w)

-- the content of a BIT STRING of these bits where they have names (X.680 22.7): without those of 0 at the end (11.2.2)
abbrev pub named_bits : List ℕ → List ℕ
named_bits w = let used = without_last_zeros w in bit_octets (last_zero_bits used) used

-- the type of an identifier: OBJECT IDENTIFIER, or RELATIVE-OID; and its content octets
abbrev pub identifier_type : ObjectIdentifier → ℕ
identifier_type x = if x.relative then 13 else 6

abbrev pub identifier_octets : ObjectIdentifier → List ℕ
identifier_octets x = x.octets.now
