-- Octets that encode a value of a format (der_cursor's Formats) by DER, if they are at most 4 GiB.
use Rattle.std.specs.Prelude.{◌≡◌, ◌≢◌, ℕ, ◌-◌, ◌*◌, ◌%◌, ◌^◌, ◌<◌, ◌≤◌, ◌<ℤ◌, ◌⊎◌, Bool, true, ℤ, pos}
use Rattle.std.specs.Prelude.{List, [], ◌++◌, length, IsTrue}
use Rattle.std.specs.List.{AllByRecursion}
use Rattle.der_base.specs.declared.rules.Rules.TheVariants.{Der}
use Rattle.der_base.specs.declared.time.ASN1DateTime.{ASN1DateTime}
use Rattle.der_base.specs.Leaf.{IsDerLeaf, IsMinimalInteger, HasZeroUnusedBits}
use Rattle.der_base.specs.Numbers.{NumberType, signed, unsigned, least, greatest}
use Rattle.der_base.specs.Spelling.{max_object_size}
use Rattle.der_base.specs.Text.{is_text_type, IsTextOf}
use Rattle.der_base.specs.Tree.{time}
use Rattle.der_cursor.specs.Formats.{Content, Field, Required}
use Rattle.der_cursor.specs.Formats.{Boolean, Integer, Number, Enumerated, BitString, OctetString, Null}
use Rattle.der_cursor.specs.Formats.{ObjectIdentifier, Text, UtcTime, GeneralizedTime, Time}
use Rattle.der_values.specs.Kinds.{EndsSubidentifier, HasPaddedArc, is_bit_set, with_whole_year}
use Rattle.der_writer.specs.Fields as put
use Rattle.der_writer.specs.Times.{IsRfc5280Time}

-- the octets are the content
pub record EncodesContent {V : Type 0} (C : Content V) (v : V) (w : List ℕ) : Type 0 where
  pub read : length w ≤ max_object_size → C Der w v

-- the octets are a value of the field, and what follows is left
pub record Encodes {V : Type 0} (F : Field V) (v : V) (e : List ℕ) : Type 0 where
  pub read : length e ≤ max_object_size → (rest : List ℕ) → F Der (e ++ rest) v rest

-- octets are below 256
abbrev pub AreOctets : List ℕ → Type 0
AreOctets w = AllByRecursion (λ b. b < 256) w

-- v without its last u bits has the same bits as w but those of 0 at the end (11.2.2)
pub record DropsLastZeros (w : List ℕ) (u : ℕ) (v : List ℕ) : Type 0 where
  pub same : (i : ℕ) → is_bit_set i v ≡ is_bit_set i w
  pub last : v ≢ [] → is_bit_set (8 * length v - u - 1) v ≡ true

-- the values of the writer's words
pub record ValuesEncode : Type 0 where
  pub booleans : (v : Bool) → Encodes (Required Boolean) v (put.Boolean v)
  pub signed_numbers : (bits : ℕ) (n : ℤ) → ¬ ((n <ℤ least (signed bits)) ⊎ (greatest (signed bits) <ℤ n))
      → Encodes (Required (Number (signed bits))) n (put.Integer n)
  pub unsigned_numbers : (bits n : ℕ) → n < 2 ^ bits
      → Encodes (Required (Number (unsigned bits))) (pos n) (put.Integer (pos n))
  pub integers : (w : List ℕ) → IsMinimalInteger w → Encodes (Required Integer) w (put.IntegerOctets w)
  pub enumerated : (n : ℕ) → n < 2 ^ 64 → Encodes (Required Enumerated) n (put.Enumerated n)
  pub bit_strings : (u : ℕ) (w : List ℕ) → HasZeroUnusedBits u w
      → Encodes (Required BitString) (u, w) (put.BitString u w)
  pub named_bits : (w : List ℕ) → AreOctets w → (u : ℕ) × (v : List ℕ) × DropsLastZeros w u v
      × Encodes (Required BitString) (u, v) (put.NamedBits w)
  pub octet_strings : (w : List ℕ) → Encodes (Required OctetString) w (put.OctetString w)
  pub nulls : Encodes (Required Null) tt put.Null
  pub identifiers : (w : List ℕ) → EndsSubidentifier w → ¬ HasPaddedArc w
      → Encodes (Required ObjectIdentifier) w (put.ObjectIdentifier w)
  pub texts : (t : ℕ) (w : List ℕ) → t < 2 ^ 32 → IsTrue (is_text_type t) → IsTextOf t w
      → Encodes (Required (Text t)) w (put.Text t w)
  pub utc_times : (x : ASN1DateTime) → IsDerLeaf 23 (time 23 x)
      → Encodes (Required UtcTime) (with_whole_year 23 x) (put.UtcTime x)
  pub generalized_times : (x : ASN1DateTime) → IsDerLeaf 24 (time 24 x)
      → Encodes (Required GeneralizedTime) x (put.GeneralizedTime x)
  pub certificate_times : (x : ASN1DateTime) → IsRfc5280Time x → Encodes Time x (put.Rfc5280Time x)

-- the other direction: a content that is read by DER is the octets that are written for its value
pub record IsContentWrittenAs {V : Type 0} (C : Content V) (f : V → List ℕ) : Type 0 where
  pub written : (w : List ℕ) (v : V) → AreOctets w → C Der w v → w ≡ f v

-- and a field begins with them
pub record IsWrittenAs {V : Type 0} (F : Field V) (f : V → List ℕ) : Type 0 where
  pub written : (i : List ℕ) (v : V) (rest : List ℕ) → AreOctets i → F Der i v rest → i ≡ f v ++ rest

-- no other octets are the value: what the field reads as it by DER begins with these
pub record EncodesOnly {V : Type 0} (F : Field V) (v : V) (e : List ℕ) : Type 0 where
  pub only : AreOctets e → length e ≤ max_object_size
      → (i rest : List ℕ) → AreOctets i → F Der i v rest → i ≡ e ++ rest

-- the year of a UTCTime in two digits
abbrev pub short_year : ASN1DateTime → ASN1DateTime
short_year x = record x { year = x.year % 100 }

-- the values of formats
pub record ValuesAreWritten : Type 0 where
  pub booleans : IsWrittenAs (Required Boolean) put.Boolean
  pub integers : IsWrittenAs (Required Integer) put.IntegerOctets
  pub numbers : (k : NumberType) → IsWrittenAs (Required (Number k)) put.Integer
  pub enumerated : IsWrittenAs (Required Enumerated) put.Enumerated
  pub bit_strings : IsWrittenAs (Required BitString) (λ v. put.BitString v.0 v.1)
  pub octet_strings : IsWrittenAs (Required OctetString) put.OctetString
  pub nulls : IsWrittenAs (Required Null) (λ v. put.Null)
  pub identifiers : IsWrittenAs (Required ObjectIdentifier) put.ObjectIdentifier
  pub texts : (t : ℕ) → IsWrittenAs (Required (Text t)) (put.Text t)
  pub utc_times : IsWrittenAs (Required UtcTime) (λ x. put.UtcTime (short_year x))
  pub generalized_times : IsWrittenAs (Required GeneralizedTime) put.GeneralizedTime
