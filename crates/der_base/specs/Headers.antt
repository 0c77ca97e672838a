-- Headers in front of a content (X.690 8.1.1), and fronts of them.
use Rattle.std.specs.Borrow.{Bor}
use Rattle.std.specs.Prelude.{◌≡◌, ◌≢◌, ℕ, ◌+◌, ◌^◌, ◌<◌, ◌≤◌, ◌⊎◌, Bool, Some, List, [], ◌∷◌, ◌++◌, length, Result}
use Rattle.der_base.specs.declared.error.Err.{Err as Refused}
use Rattle.der_base.specs.declared.error.Error.{Error as BerError}
use Rattle.der_base.specs.declared.header.Class.{Class}
use Rattle.der_base.specs.declared.header.Header.{Header}
use Rattle.der_base.specs.declared.header.Length.{Length}
use Rattle.der_base.specs.declared.header.Length.TheVariants.{Definite}
use Rattle.der_base.specs.Exactly.{AnswersExactly}
use Rattle.der_base.specs.Fault.{BerHeaderRefuses, DerHeaderRefuses}
use Rattle.der_base.specs.Header.{class_of, is_constructed, number_of, length_of, raw_tag_of}
use Rattle.der_base.specs.LengthOctets.{BeginsWithLength}
use Rattle.der_base.specs.Octets.{identifier, SpellsAnyLength, shortest_length}
use Rattle.der_base.specs.Refusal.{Refusal}

-- i begins with identifier octets, and with a length in its shortest octets (10.1), and rest follows
pub record BeginsWithDerHeader (i : List ℕ) (c : Class) (p : Bool) (t n : ℕ) (rest : List ℕ) : Type 0 where
  pub octets : i ≡ identifier c p t ++ shortest_length n ++ rest
  pub number : t < 2 ^ 32
  pub length : n < 2 ^ 64

-- i begins with identifier octets, and with a length in any octets that BER allows there (8.1.3), and rest follows
pub record BeginsWithHeader (i : List ℕ) (c : Class) (p : Bool) (t : ℕ) (l : Length) (rest : List ℕ) : Type 0 where
  pub following : List ℕ
  pub octets : i ≡ identifier c p t ++ following
  pub number : t < 2 ^ 32
  pub length : BeginsWithLength following p l rest

-- i begins with the header h as DER writes it, and rest follows
pub record ReadsDerHeader (i : List ℕ) (h : Header) (rest : List ℕ) : Type 0 where
  pub size : ℕ
  pub begins : BeginsWithDerHeader i (class_of h) (is_constructed h) (number_of h) size rest
  pub length : length_of h ≡ Definite size
  pub raw_tag : raw_tag_of h ≡ Some (identifier (class_of h) (is_constructed h) (number_of h))

-- the same by BER
pub record ReadsHeader (i : List ℕ) (h : Header) (rest : List ℕ) : Type 0 where
  pub begins : BeginsWithHeader i (class_of h) (is_constructed h) (number_of h) (length_of h) rest
  pub raw_tag : raw_tag_of h ≡ Some (identifier (class_of h) (is_constructed h) (number_of h))

-- How many octets i lacks where it ends within a header, whose tag number and length may have any size: one in or
-- before the identifier or before the length, and those of a length that are announced and missing.
pub data HeaderLacks : List ℕ → ℕ → Type 0 where
  in_identifier : {i : List ℕ} (c : Class) (p : Bool) (t : ℕ) (r : List ℕ) → i ++ r ≡ identifier c p t → HeaderLacks i 1
  in_length : {i : List ℕ} {n : ℕ} (c : Class) (p : Bool) (t b : ℕ) (bs : List ℕ)
      → b < 255 → 1 ≤ n → 128 + length bs + n ≡ b
      → i ≡ identifier c p t ++ b ∷ bs → HeaderLacks i n

-- a header, of a tag number and a length of any size, definite or not (8.1.3.2)
abbrev pub IsHeaderShape : List ℕ → Type 0
IsHeaderShape b = (c : Class) × (p : Bool) × (t : ℕ) × (s : List ℕ) × (b ≡ identifier c p t ++ s)
    × (((n : ℕ) × SpellsAnyLength s n) ⊎ (s ≡ 128 ∷ []))

-- i is a proper front of one
abbrev pub IsHeaderCut : List ℕ → Type 0
IsHeaderCut i = (r : List ℕ) × (r ≢ []) × IsHeaderShape (i ++ r)

-- i is cut short within a header, lacks n octets, and shows no refusal of DER
abbrev pub DerHeaderLacks : List ℕ → ℕ → Type 0
DerHeaderLacks i n = IsHeaderCut i × HeaderLacks i n × ((e : Refusal) → ¬ DerHeaderRefuses i e)

-- nor of BER
abbrev pub BerHeaderLacks : List ℕ → ℕ → Type 0
BerHeaderLacks i n = IsHeaderCut i × HeaderLacks i n × ((e : Refusal) → ¬ BerHeaderRefuses i e)

-- the parts of a header in front of an input, and what follows it
pub record LeadingHeader : Type 0 where
  pub class : Class
  pub constructed : Bool
  pub number : ℕ
  pub length : Length
  pub rest : List ℕ

-- i begins with one, by BER
abbrev pub SpellsHeader : List ℕ → LeadingHeader → Type 0
SpellsHeader i v = BeginsWithHeader i v.class v.constructed v.number v.length v.rest

-- and by DER
abbrev pub SpellsDerHeader : List ℕ → LeadingHeader → Type 0
SpellsDerHeader i v = (n : ℕ) × (v.length ≡ Definite n) × BeginsWithDerHeader i v.class v.constructed v.number n v.rest

-- the result of a reader of headers
abbrev pub HeaderAnswer : Type 0
HeaderAnswer = Result (Bor (List ℕ) × Header) (Refused BerError)

-- what was read, and what is left of the input
abbrev pub leading_header : Bor (List ℕ) × Header → LeadingHeader
leading_header x = record {
  class = class_of x.1;
  constructed = is_constructed x.1;
  number = number_of x.1;
  length = length_of x.1;
  rest = x.0.now;
}

-- the reader of headers returns exactly what i shows by BER, and does not allocate
abbrev pub AnswersBerHeader : List ℕ → HeaderAnswer → Type 0
AnswersBerHeader i result = AnswersExactly result leading_header (λ x. ReadsHeader i x.1 x.0.now) (SpellsHeader i)
    (BerHeaderRefuses i) (BerHeaderLacks i) ⊥ ⊥

-- the same by DER
abbrev pub AnswersDerHeader : List ℕ → HeaderAnswer → Type 0
AnswersDerHeader i result = AnswersExactly result leading_header (λ x. ReadsDerHeader i x.1 x.0.now) (SpellsDerHeader i)
    (DerHeaderRefuses i) (DerHeaderLacks i) ⊥ ⊥
