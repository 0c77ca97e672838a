-- The content octets of a value of BER, as DER writes them.
use Rattle.std.specs.Prelude.{ℕ, ◌==◌, Bool, true, false, if◌then◌else◌, List, [], ◌∷◌}
use Rattle.der_base.specs.declared.header.Class.{Class}
use Rattle.der_base.specs.declared.header.Class.TheVariants.{Universal}
use Rattle.der_writer.specs.Octets.{cleared}

abbrev pub is_universal : Class → Bool
is_universal Universal = true
is_universal _ = false

-- a BOOLEAN that is true is ff (8.2.2, 11.1)
abbrev pub boolean_octet : ℕ → ℕ
boolean_octet b = if b == 0 then 0 else 255

-- the one octet of a BOOLEAN
abbrev pub boolean_in_der : List ℕ → List ℕ
boolean_in_der (b ∷ []) = boolean_octet b ∷ []
boolean_in_der w = w

-- the unused bits of a BIT STRING are 0 (11.2.1)
abbrev pub bits_in_der : List ℕ → List ℕ
bits_in_der [] = []
bits_in_der (u ∷ w) = u ∷ cleared u w

-- the content w of a primitive element of the universal type of this number, as DER writes it
abbrev pub content_in_der : ℕ → List ℕ → List ℕ
content_in_der t w = if t == 1 then boolean_in_der w else (if t == 3 then bits_in_der w else w)

-- that of an element of this class, which isn't known of another class than Universal
abbrev pub value_in_der : Class → ℕ → List ℕ → List ℕ
value_in_der c t w = if is_universal c then content_in_der t w else w
