-- What else is known where a walk stops.
use Rattle.std.specs.Prelude.{◌≡◌, ℕ, ◌-◌, ◌<◌, ◌%◌, ◌⊎◌, ◌==◌, ◌&&◌, nat_lt, if◌then◌else◌, Bool, true, false}
use Rattle.std.specs.Prelude.{List, [], ◌∷◌, length}
use Rattle.der_elements.specs.declared.cause.Cause.{Cause}
use Rattle.der_elements.specs.declared.cause.Cause.TheVariants.{Cut, PastEnd, NoEndMarker, EndMarker, Header, Value}
use Rattle.der_elements.specs.declared.cause.Cause.TheVariants.{Constructed, ConstructedString, OtherPart, UnusedBitsInside}
use Rattle.der_elements.specs.declared.cause.Cause.TheVariants.{NotDer, TooDeep}
use Rattle.der_elements.specs.Ends.{octets_after}
use Rattle.der_elements.specs.Faults.{Position}

-- no element begins at a fault with this cause, not even an invalid header
abbrev pub begins_none : Cause → Bool
begins_none (Cut n) = true
begins_none EndMarker = true
begins_none (Header e) = false
begins_none (PastEnd n) = false
begins_none NoEndMarker = false
begins_none (Value e) = false
begins_none Constructed = false
begins_none ConstructedString = false
begins_none OtherPart = false
begins_none UnusedBitsInside = false
begins_none NotDer = false
begins_none TooDeep = false

-- how many octets follow the last element of the input, if no element begins there: none is around the position
abbrev pub octets_after_end : Position → Cause → ℕ
octets_after_end p c = if p.depth == 0 && nat_lt 0 p.at && begins_none c then length p.input - p.at else 0

-- how many octets the outermost element lacks
abbrev pub octets_beyond : Position → ℕ
octets_beyond p = octets_after p.outermost

-- identifier octets of the long form whose number is below 31 or begins with zeros (8.1.2.4)
abbrev pub IsPaddedTag : List ℕ → Type 0
IsPaddedTag i = (a b : ℕ) × (rest : List ℕ) × (i ≡ a ∷ b ∷ rest) × ((b < 31) ⊎ (b ≡ 128))

-- whether the octet after the last octet of a tag number is ff, which is no length octet (8.1.3.5)
abbrev pub is_reserved_behind : List ℕ → Bool
is_reserved_behind [] = false
is_reserved_behind (a ∷ []) = false
is_reserved_behind (a ∷ b ∷ rest) = if nat_lt a 128 then b == 0xff else is_reserved_behind (b ∷ rest)

-- whether the first length octet after identifier octets is ff
abbrev pub has_reserved_length : List ℕ → Bool
has_reserved_length [] = false
has_reserved_length (a ∷ []) = false
has_reserved_length (a ∷ b ∷ rest) = if a % 32 == 31 then is_reserved_behind (b ∷ rest) else b == 0xff
