-- What X.690 requires of the content octets of a primitive element of each universal type, as far as that needs no
-- ASN.1 type: a table of rules, one row for each type. The first rule that is broken gives the error.
use Rattle.std.specs.Prelude.{◌≡◌, ◌≢◌, ℕ, ◌/◌, ◌%◌, ◌<◌, ◌≤◌, ◌⊎◌, Bool, true, false, ◌==◌, ◌||◌, nat_lt}
use Rattle.std.specs.Prelude.{List, [], ◌∷◌, ◌++◌, length, drop, IsUtf8, Result, Ok, Err}
use Rattle.der_base.specs.declared.rules.Rules.{Rules}
use Rattle.der_base.specs.declared.rules.Rules.TheVariants.{Ber, Der}
use Rattle.der_base.specs.Leaf.{IsMinimalInteger, HasZeroUnusedBits}
use Rattle.der_base.specs.Text.{IsTextOf}
use Rattle.der_contents.specs.declared.content_error.ContentError.{ContentError}
use Rattle.der_contents.specs.declared.content_error.ContentError.TheVariants as errors
use Rattle.der_contents.specs.Grammar.{BeginsWithNo}
use Rattle.der_values.specs.Kinds.{EndsSubidentifier, HasPaddedArc}
use Rattle.der_contents.specs.RealForms.{exponent_of, mantissa_of, EndsOdd, IsDecimal, IsStrictDecimal}
use Rattle.der_contents.specs.TimeForms.{IsUtcTimeText, IsGeneralizedTimeText, EndsInZ, HasDigits, HasComma}
use Rattle.der_contents.specs.TimeForms.{HasLastZero}

-- a rule, and the error where it doesn't hold
pub record Rule : Type 1 where
  pub holds : Type 0
  pub error : ContentError

abbrev pub need : Type 0 → ContentError → Rule
need P e = record { holds = P; error = e }

-- none of the rules is broken
abbrev pub AllHold : List Rule → Type 0
AllHold [] = Unit {0}
AllHold (r ∷ rs) = r.holds × AllHold rs

-- the error of the first rule that is broken
abbrev pub IsFirstBroken : List Rule → ContentError → Type 0
IsFirstBroken [] e = ⊥
IsFirstBroken (r ∷ rs) e = (¬ r.holds × (e ≡ r.error)) ⊎ (r.holds × IsFirstBroken rs e)

-- the result of a check of these rules
abbrev pub Checks : List Rule → Result (Unit {0}) ContentError → Type 0
Checks rs (Ok u) = AllHold rs
Checks rs (Err e) = IsFirstBroken rs e

-- rules of DER alone
abbrev pub by_der : Rules → List Rule → List Rule
by_der Ber rs = []
by_der Der rs = rs

-- a row of a table: whether it applies, and its rules
pub record Row : Type 1 where
  pub applies : Bool
  pub rules : List Rule

abbrev pub row : Bool → List Rule → Row
row b rs = record { applies = b; rules = rs }

abbrev pub choose : Bool → List Rule → List Rule → List Rule
choose true rs ss = rs
choose false rs ss = ss

-- the rules of the first row that applies
abbrev pub first_row : List Row → List Rule
first_row [] = []
first_row (r ∷ rs) = choose r.applies r.rules (first_row rs)

abbrev pub boolean_rules : Rules → List ℕ → List Rule
boolean_rules r w =
    need (length w ≡ 1) errors.BooleanLength
    ∷ by_der r (need ((w ≡ 0 ∷ []) ⊎ (w ≡ 255 ∷ [])) errors.BooleanValue ∷ [])

-- INTEGER and ENUMERATED
abbrev pub number_rules : List ℕ → List Rule
number_rules w = need (w ≢ []) errors.NumberEmpty ∷ need (IsMinimalInteger w) errors.NumberPadded ∷ []

abbrev pub bit_string_rules : Rules → List ℕ → List Rule
bit_string_rules r [] = need ⊥ errors.UnusedBitsMissing ∷ []
bit_string_rules r (u ∷ w) =
    need (u ≤ 7) errors.UnusedBitsAboveSeven
    ∷ need (w ≡ [] → u ≡ 0) errors.UnusedBitsOfNone
    ∷ by_der r (need (HasZeroUnusedBits u w) errors.UnusedBitsNotZero ∷ [])

-- OBJECT IDENTIFIER and RELATIVE-OID
abbrev pub identifier_rules : List ℕ → List Rule
identifier_rules w =
    need (w ≢ []) errors.IdentifierEmpty
    ∷ need (EndsSubidentifier w) errors.ArcOpen
    ∷ need (¬ HasPaddedArc w) errors.ArcPadded
    ∷ []

-- a REAL in base 2 by DER, with a first octet, an exponent and a mantissa
abbrev pub strict_binary_rules : ℕ → List ℕ → List ℕ → List Rule
strict_binary_rules a e m =
    need (a / 4 % 16 ≡ 0) errors.RealBaseOrScale
    ∷ need (IsMinimalInteger e × (a % 4 ≡ 3 → 3 < length e)) errors.RealExponentNotFewest
    ∷ need (BeginsWithNo (λ b. b ≡ 0) m × EndsOdd m) errors.RealMantissaNotFewest
    ∷ []

abbrev pub binary_rules : Rules → ℕ → List ℕ → List ℕ → List Rule
binary_rules r a e m =
    need (a / 16 % 4 ≢ 3) errors.RealBaseReserved
    ∷ need (e ≢ []) errors.RealExponentMissing
    ∷ need (m ≢ []) errors.RealMantissaMissing
    ∷ need (a % 4 ≡ 3 → IsMinimalInteger e) errors.RealExponentPadded
    ∷ by_der r (strict_binary_rules a e m)

-- the infinities, no number and minus zero
abbrev pub special_rules : ℕ → List ℕ → List Rule
special_rules a w = need ((a < 68) × (w ≡ [])) errors.RealSpecial ∷ []

abbrev pub decimal_rules : Rules → ℕ → List ℕ → List Rule
decimal_rules r a w =
    need (IsDecimal a w) errors.RealDecimal
    ∷ by_der r (need ((a ≡ 3) × IsStrictDecimal w) errors.RealDecimalNotStrict ∷ [])

-- the bits 8 and 7 of the first octet tell the form; no octets are 0 (8.5.2, 8.5.6)
abbrev pub real_rules : Rules → List ℕ → List Rule
real_rules r [] = []
real_rules r (a ∷ w) = choose (nat_lt a 64) (decimal_rules r a w)
    (choose (nat_lt a 128) (special_rules a w) (binary_rules r a (exponent_of a w) (mantissa_of a w)))

-- a text in the character set of its type
abbrev pub text_rules : ℕ → List ℕ → List Rule
text_rules t w = need (IsTextOf t w) errors.CharacterOutside ∷ []

-- the second is there, and universal time
abbrev pub strict_time_rules : ℕ → List ℕ → List Rule
strict_time_rules digits w =
    need (EndsInZ w) errors.TimeNotInZ
    ∷ need (HasDigits digits w) errors.TimeWithoutSeconds
    ∷ []

abbrev pub utc_time_rules : Rules → List ℕ → List Rule
utc_time_rules r w = need (IsUtcTimeText w) errors.TimeText ∷ by_der r (strict_time_rules 12 w)

abbrev pub fraction_rules : List ℕ → List Rule
fraction_rules w =
    need (¬ HasComma w) errors.TimeComma ∷ need (¬ HasLastZero w) errors.TimeLastZero ∷ []

abbrev pub generalized_time_rules : Rules → List ℕ → List Rule
generalized_time_rules r w =
    need (IsGeneralizedTimeText w) errors.TimeText
    ∷ by_der r (strict_time_rules 14 w ++ fraction_rules (drop 14 w))

-- The table, by the number of the type. Where there is no row, any octets are a content.
abbrev pub content_rules : Rules → ℕ → List ℕ → List Rule
content_rules r t w = first_row (
    row (t == 1) (boolean_rules r w)
    ∷ row (t == 2 || t == 10) (number_rules w)
    ∷ row (t == 3) (bit_string_rules r w)
    ∷ row (t == 5) (need (w ≡ []) errors.NullNotEmpty ∷ [])
    ∷ row (t == 6 || t == 13) (identifier_rules w)
    ∷ row (t == 8) (need ⊥ errors.ExternalPrimitive ∷ [])
    ∷ row (t == 9) (real_rules r w)
    ∷ row (t == 11) (need ⊥ errors.EmbeddedPdvPrimitive ∷ [])
    ∷ row (t == 12 || t == 35 || t == 36) (need (IsUtf8 w) errors.NotUtf8 ∷ [])
    ∷ row (t == 16) (need ⊥ errors.SequencePrimitive ∷ [])
    ∷ row (t == 17) (need ⊥ errors.SetPrimitive ∷ [])
    ∷ row (t == 18 || t == 19 || t == 22 || t == 26) (text_rules t w)
    ∷ row (t == 23) (utc_time_rules r w)
    ∷ row (t == 24) (generalized_time_rules r w)
    ∷ row (t == 28) (need (length w % 4 ≡ 0) errors.UniversalStringLength ∷ [])
    ∷ row (t == 29) (need ⊥ errors.CharacterStringPrimitive ∷ [])
    ∷ row (t == 30) (need (length w % 2 ≡ 0) errors.BmpStringLength ∷ [])
    ∷ [])

-- the octets are a content of the universal type of this number
abbrev pub IsContent : Rules → ℕ → List ℕ → Type 0
IsContent r t w = AllHold (content_rules r t w)
