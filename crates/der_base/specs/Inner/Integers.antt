-- An INTEGER in front of an input, whose number may be of any size.
use Rattle.std.specs.Prelude.{◌≡◌, ◌≢◌, ℕ, ◌⊎◌, Bool, true, false, Some, List, [], ◌∷◌, ◌++◌, length}
use Rattle.der_base.specs.declared.error.DerConstraint.TheVariants.{Constructed}
use Rattle.der_base.specs.declared.header.Class.{Class}
use Rattle.der_base.specs.Any.{AnyRefuses}
use Rattle.der_base.specs.Fault.{DerHeaderRefuses}
use Rattle.der_base.specs.Headers.{BeginsWithDerHeader}
use Rattle.der_base.specs.LeafRefusal.{Test, refuse, IsFirstRefusal, NoneHolds, integer_tests}
use Rattle.der_base.specs.Numbers.{NumberType, sign_tests}
use Rattle.der_base.specs.Refusal.{Refusal, construct_unexpected, unexpected_tag, der_constraint}
use Rattle.der_base.specs.Spelling.{BeginsWithElement, framing_budget}

-- the tests of a reader of numbers, but for those of the number
abbrev pub ber_form_tests : Bool → ℕ → List ℕ → List Test
ber_form_tests p t w =
    refuse (t ≢ 2) (unexpected_tag (Some 2) t)
    ∷ refuse (p ≡ true) construct_unexpected
    ∷ []

-- by DER, those of the header
abbrev pub der_header_tests : Bool → ℕ → List Test
der_header_tests p t =
    refuse (t ≢ 2) (unexpected_tag (Some 2) t)
    ∷ refuse (p ≡ true) (der_constraint Constructed)
    ∷ []

-- and all but for those of the size
abbrev pub der_form_tests : NumberType → Bool → ℕ → List ℕ → List Test
der_form_tests k p t w = der_header_tests p t ++ (sign_tests k w ++ integer_tests w)

-- i begins with an INTEGER of these content octets, which passes the tests, and rest follows
abbrev pub ReadsBerInteger : List ℕ → List ℕ → List ℕ → Type 0
ReadsBerInteger i w rest = (c : Class) × BeginsWithElement i framing_budget c false 2 w rest

abbrev pub ReadsDerInteger : NumberType → List ℕ → List ℕ → List ℕ → Type 0
ReadsDerInteger k i w rest = (c : Class) × BeginsWithDerHeader i c false 2 (length w) (w ++ rest)
    × NoneHolds (der_form_tests k false 2 w)

-- i shows a refusal of an element, or begins with one that does not pass
abbrev pub BerIntegerRefuses : List ℕ → Refusal → Type 0
BerIntegerRefuses i e = AnyRefuses i e
    ⊎ ((c : Class) × (p : Bool) × (t : ℕ) × (w rest : List ℕ) × BeginsWithElement i framing_budget c p t w rest
    × IsFirstRefusal (ber_form_tests p t w) e)

abbrev pub DerIntegerRefuses : NumberType → List ℕ → Refusal → Type 0
DerIntegerRefuses k i e = DerHeaderRefuses i e
    ⊎ ((c : Class) × (p : Bool) × (t : ℕ) × (w rest : List ℕ) × BeginsWithDerHeader i c p t (length w) (w ++ rest)
    × IsFirstRefusal (der_form_tests k p t w) e)
