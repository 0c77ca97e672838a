-- The numbers of contents (X.690 8.3, 8.4, 8.6): what the accessors of objects and the readers of numbers return. Each
-- refusal is the first test of a table that holds.
use Rattle.std.specs.Prelude.{◌≡◌, ◌≢◌, ℕ, ◌-◌, ◌*◌, ◌^◌, ◌<◌, ◌⊎◌, Bool, true, false, ℤ, pos, neg_ℤ, ◌<ℤ◌, Some}
use Rattle.std.specs.Prelude.{List, [], ◌∷◌, ◌++◌, length, Result, Ok, Err}
use Rattle.std.specs.Borrow.{Bor}
use Rattle.der_base.specs.declared.error.DerConstraint.TheVariants.{Constructed}
use Rattle.der_base.specs.declared.error.Err.{Err as Refused}
use Rattle.der_base.specs.declared.error.Error.{Error as BerError}
use Rattle.der_base.specs.declared.header.Class.{Class}
use Rattle.der_base.specs.Any.{AnyRefuses, AnyLacks, DerAnyLacks}
use Rattle.der_base.specs.Exactly.{AnswersExactly}
use Rattle.der_base.specs.Fault.{DerHeaderRefuses}
use Rattle.der_base.specs.Headers.{BeginsWithDerHeader}
use Rattle.der_base.specs.LeafRefusal.{Test, refuse, IsFirstRefusal, NoneHolds, integer_tests}
use Rattle.der_base.specs.Octets.{integer_value, bits_value}
use Rattle.der_base.specs.Refusal.{Refusal, refusal, wrong_type, wrong_value, invalid_length, integer_too_large}
use Rattle.der_base.specs.Refusal.{integer_negative, construct_unexpected, unexpected_tag, der_constraint}
use Rattle.der_base.specs.Spelling.{BeginsWithElement, framing_budget}
use Rattle.der_base.specs.Tree.{Content, integer, enumerated, bit_string}

-- the numbers of a type of the code, by how many bits it has
pub data NumberType : Type 0 where
  signed : ℕ → NumberType
  unsigned : ℕ → NumberType

abbrev pub least : NumberType → ℤ
least (signed bits) = neg_ℤ (pos (2 ^ (bits - 1)))
least (unsigned bits) = pos 0

abbrev pub greatest : NumberType → ℤ
greatest (signed bits) = pos (2 ^ (bits - 1) - 1)
greatest (unsigned bits) = pos (2 ^ bits - 1)

-- the number of an INTEGER or ENUMERATED, or the one that the used bits of a BIT STRING spell, the highest first; 0 for
-- another content, which is refused
abbrev pub number_of_content : Content → ℤ
number_of_content (integer w) = integer_value w
number_of_content (enumerated n) = pos n
number_of_content (bit_string u w) = pos (bits_value u w)
number_of_content _ = pos 0

-- the number does not fit the type
abbrev pub fits_tests : NumberType → ℤ → List Test
fits_tests k v = refuse ((v <ℤ least k) ⊎ (greatest k <ℤ v)) integer_too_large ∷ []

-- an INTEGER is negative, which no number of an unsigned type is (8.3.3)
abbrev pub sign_tests : NumberType → List ℕ → List Test
sign_tests (signed bits) w = []
sign_tests (unsigned bits) w = refuse (integer_value w <ℤ pos 0) integer_negative ∷ []

-- more bits are unused than there are; more are used than a number has
abbrev pub bit_count_tests : ℕ → List ℕ → List Test
bit_count_tests u w =
    refuse (8 * length w < u) invalid_length
    ∷ refuse (64 < 8 * length w - u) integer_too_large
    ∷ []

-- An INTEGER alone has a signed number. An INTEGER, an ENUMERATED and a BIT STRING have an unsigned one.
abbrev pub number_tests : NumberType → Content → List Test
number_tests k (integer w) = sign_tests k w ++ fits_tests k (integer_value w)
number_tests (unsigned bits) (enumerated n) = fits_tests (unsigned bits) (pos n)
number_tests (unsigned bits) (bit_string u w) = bit_count_tests u w ++ fits_tests (unsigned bits) (pos (bits_value u w))
number_tests (unsigned bits) _ = refuse (Unit {0}) wrong_type ∷ []
number_tests (signed bits) _ = refuse (Unit {0}) wrong_value ∷ []

abbrev pub NumberRefuses : NumberType → Content → Refusal → Type 0
NumberRefuses k x e = IsFirstRefusal (number_tests k x) e

-- an accessor's result: the number, if no test holds, or the refusal of the first that does
abbrev pub AnswersNumberOf : {T : Type 0} → (T → ℤ) → NumberType → Content → Result T BerError → Type 0
AnswersNumberOf value k x (Ok v) = NoneHolds (number_tests k x) × (value v ≡ number_of_content x)
AnswersNumberOf value k x (Err e) = NumberRefuses k x (refusal e)

-- of `as_i64` and `as_i32`, by the bits of the type
abbrev pub AnswersSigned : ℕ → Content → Result ℤ BerError → Type 0
AnswersSigned bits x result = AnswersNumberOf (λ v. v) (signed bits) x result

-- of `as_u64` and `as_u32`
abbrev pub AnswersUnsigned : ℕ → Content → Result ℕ BerError → Type 0
AnswersUnsigned bits x result = AnswersNumberOf pos (unsigned bits) x result

-- Readers of a number: the tests of the element in front, of tag number t, constructed or not, with content octets w.
-- The class is not compared.
abbrev pub ber_reader_tests : NumberType → Bool → ℕ → List ℕ → List Test
ber_reader_tests k p t w =
    refuse (t ≢ 2) (unexpected_tag (Some 2) t)
    ∷ refuse (p ≡ true) construct_unexpected
    ∷ number_tests k (integer w)

-- by DER, the sign comes before the form (8.3.2), and the form before the size
abbrev pub der_reader_tests : NumberType → Bool → ℕ → List ℕ → List Test
der_reader_tests k p t w =
    refuse (t ≢ 2) (unexpected_tag (Some 2) t)
    ∷ refuse (p ≡ true) (der_constraint Constructed)
    ∷ sign_tests k w ++ (integer_tests w ++ fits_tests k (integer_value w))

-- i begins with an INTEGER of this number, which passes the tests, and rest follows
pub record BeginsWithBerNumber (k : NumberType) (i : List ℕ) (v : ℤ) (rest : List ℕ) : Type 0 where
  pub class : Class
  pub octets : List ℕ
  pub element : BeginsWithElement i framing_budget class false 2 octets rest
  pub passes : NoneHolds (ber_reader_tests k false 2 octets)
  pub value : v ≡ integer_value octets

-- the same, as DER writes its header
pub record BeginsWithDerNumber (k : NumberType) (i : List ℕ) (v : ℤ) (rest : List ℕ) : Type 0 where
  pub class : Class
  pub octets : List ℕ
  pub element : BeginsWithDerHeader i class false 2 (length octets) (octets ++ rest)
  pub passes : NoneHolds (der_reader_tests k false 2 octets)
  pub value : v ≡ integer_value octets

-- the refusals of an element come first, then those of the tests
abbrev pub BerNumberRefuses : NumberType → List ℕ → Refusal → Type 0
BerNumberRefuses k i e = AnyRefuses i e
    ⊎ ((c : Class) × (p : Bool) × (t : ℕ) × (w rest : List ℕ) × BeginsWithElement i framing_budget c p t w rest
    × IsFirstRefusal (ber_reader_tests k p t w) e)

abbrev pub DerNumberRefuses : NumberType → List ℕ → Refusal → Type 0
DerNumberRefuses k i e = DerHeaderRefuses i e
    ⊎ ((c : Class) × (p : Bool) × (t : ℕ) × (w rest : List ℕ) × BeginsWithDerHeader i c p t (length w) (w ++ rest)
    × IsFirstRefusal (der_reader_tests k p t w) e)

-- the result of a reader of a number, which is one of a type of the code
abbrev pub NumberAnswer : Type 0 → Type 0
NumberAnswer T = Result (Bor (List ℕ) × T) (Refused BerError)

-- the number, and what is left of the input
abbrev pub leading_number : {T : Type 0} → (T → ℤ) → Bor (List ℕ) × T → ℤ × List ℕ
leading_number value x = (value x.1, x.0.now)

-- the reader returns exactly what i shows by BER, and does not allocate
abbrev pub AnswersBerNumber : {T : Type 0} → (T → ℤ) → NumberType → List ℕ → NumberAnswer T → Type 0
AnswersBerNumber value k i result = AnswersExactly result (leading_number value)
    (λ x. BeginsWithBerNumber k i (value x.1) x.0.now) (λ v. BeginsWithBerNumber k i v.0 v.1)
    (BerNumberRefuses k i) (AnyLacks i) ⊥ ⊥

-- the same by DER
abbrev pub AnswersDerNumber : {T : Type 0} → (T → ℤ) → NumberType → List ℕ → NumberAnswer T → Type 0
AnswersDerNumber value k i result = AnswersExactly result (leading_number value)
    (λ x. BeginsWithDerNumber k i (value x.1) x.0.now) (λ v. BeginsWithDerNumber k i v.0 v.1)
    (DerNumberRefuses k i) (DerAnyLacks i) ⊥ ⊥
