-- The kinds of value that primitive elements have: the tests that their content octets pass, and what they mean.
use Rattle.std.specs.Prelude.{◌≡◌, ℕ, ◌<◌, ◌-◌, ◌/◌, ◌%◌, ◌^◌, ◌==◌, if◌then◌else◌, Bool, true, false, not, ℤ, pos}
use Rattle.std.specs.Prelude.{Option, None, List, [], ◌∷◌, ◌++◌, length, slice_get, get_or, Result, Ok, Err}
use Rattle.std.specs.Option.{IsSomeAnd}
use Rattle.std.specs.List.{list_all}
use Rattle.der_base.specs.declared.error.Error.{Error as BerError}
use Rattle.der_base.specs.declared.oid.Oid.{Oid}
use Rattle.der_base.specs.declared.rules.Rules.{Rules}
use Rattle.der_base.specs.declared.rules.Rules.TheVariants.{Ber, Der}
use Rattle.der_base.specs.declared.time.ASN1DateTime.{ASN1DateTime}
use Rattle.der_base.specs.Arcs.{arcs, subidentifiers}
use Rattle.der_base.specs.Leaf.{IsLeafContent}
use Rattle.der_base.specs.LeafRefusal.{Test, refuse, IsFirstRefusal, NoneHolds, ber_tests, der_primitive_tests}
use Rattle.der_base.specs.LeafRefusal.{der_tests}
use Rattle.der_base.specs.Numbers.{NumberType, number_tests}
use Rattle.der_base.specs.Octets.{integer_value}
use Rattle.der_base.specs.Oids.{is_relative_of, octets_of}
use Rattle.der_base.specs.Refusal.{refusal, wrong_value}
use Rattle.der_base.specs.Time.{IsTimeText, rfc5280_year}
use Rattle.der_base.specs.Tree.{Content, boolean, integer}
use Rattle.der_values.specs.declared.identifier.ObjectIdentifier.{ObjectIdentifier}

-- the tests of the content octets of a primitive universal type (X.690 8), and by DER those of 10 and 11
abbrev pub leaf_tests : Rules → ℕ → List ℕ → List Test
leaf_tests Ber t w = ber_tests false t w
leaf_tests Der t w = der_primitive_tests t w

-- the same in an element that is primitive or constructed
abbrev pub content_tests : Rules → Bool → ℕ → List ℕ → List Test
content_tests Ber p t w = ber_tests p t w
content_tests Der p t w = der_tests p t w

-- The tests of content octets, and the value of those of which no test holds.
pub record Kind (V : Type 0) : Type 1 where
  pub tests : List ℕ → List Test
  pub means : List ℕ → V → Type 0

-- a reader of content octets returns their value if no test holds, and otherwise the refusal of the first that does
abbrev pub Decodes : {T V : Type 0} → (T → V) → Kind V → List ℕ → Result T BerError → Type 0
Decodes value k w (Ok x) = NoneHolds (k.tests w) × k.means w (value x)
Decodes value k w (Err e) = IsFirstRefusal (k.tests w) (refusal e)

-- the same octets, of whose value nothing is kept
abbrev pub checked : {V : Type 0} → Kind V → Kind (Unit {0})
checked k = record { tests = k.tests; means = λ w u. Unit {0} }

-- the content of a universal type that is no list, in a primitive element
abbrev pub primitives : Rules → ℕ → Kind Content
primitives r t = record { tests = leaf_tests r t; means = IsLeafContent false t }

-- and in one that is primitive or constructed
abbrev pub contents : Rules → Bool → ℕ → Kind Content
contents r p t = record { tests = content_tests r p t; means = IsLeafContent p t }

-- a BOOLEAN is one octet, false if it is 0 (8.2); by DER true is 255 (11.1)
abbrev pub booleans : Rules → Kind Bool
booleans r = record { tests = leaf_tests r 1; means = λ w v. IsLeafContent false 1 w (boolean v) }

-- the octets of an INTEGER, in two's complement (8.3)
abbrev pub integers : Rules → Kind (List ℕ)
integers r = record { tests = leaf_tests r 2; means = λ w v. v ≡ w }

-- the number of an INTEGER, which one of the types of the code has
abbrev pub numbers : Rules → NumberType → Kind ℤ
numbers r k = record { tests = λ w. leaf_tests r 2 w ++ number_tests k (integer w); means = λ w n. n ≡ integer_value w }

-- the number of an ENUMERATED, from 0 to 2^64-1 (8.4)
abbrev pub enumerated_numbers : Rules → Kind ℕ
enumerated_numbers r = record { tests = leaf_tests r 10; means = λ w n. pos n ≡ integer_value w }

-- how many bits of a BIT STRING aren't used, and its octets (8.6; by DER 11.2)
abbrev pub bit_strings : Rules → Kind (ℕ × List ℕ)
bit_strings r = record { tests = leaf_tests r 3; means = λ w v. w ≡ v.0 ∷ v.1 }

-- bit i of octets is 1, where bit 0 is the highest of the first; past the end there is none
abbrev pub is_bit_set : ℕ → List ℕ → Bool
is_bit_set i w = get_or w (i / 8) 0 / 2 ^ (7 - i % 8) % 2 == 1

-- the octets of an OCTET STRING (8.7)
abbrev pub octet_strings : Kind (List ℕ)
octet_strings = record { tests = λ w. []; means = λ w v. v ≡ w }

-- a NULL has no octets by DER (8.8.2); by BER they are passed over
abbrev pub nulls : Rules → Kind (Unit {0})
nulls r = record { tests = leaf_tests r 5; means = λ w v. Unit {0} }

-- there is a last octet, and it ends a subidentifier (8.19.2)
abbrev pub EndsSubidentifier : List ℕ → Type 0
EndsSubidentifier w = IsSomeAnd (slice_get w (length w - 1)) (λ b. b < 128)

abbrev pub is_unpadded : List ℕ → Bool
is_unpadded [] = true
is_unpadded (b ∷ s) = not (b == 128)

-- a subidentifier begins with an octet of 128 (8.19.2)
abbrev pub HasPaddedArc : List ℕ → Type 0
HasPaddedArc w = list_all is_unpadded (subidentifiers w) ≡ false

-- the arcs of an OBJECT IDENTIFIER, which a RELATIVE-OID isn't
abbrev pub absolute_arcs : Oid → Option (List ℕ)
absolute_arcs x = if is_relative_of x then None else arcs false (octets_of x)

-- the content octets of an OBJECT IDENTIFIER; for a RELATIVE-OID it has none, and no OBJECT IDENTIFIER is empty
abbrev pub absolute_octets : Oid → List ℕ
absolute_octets x = if is_relative_of x then [] else octets_of x

-- the same of a borrowed identifier: its arcs, and its octets
abbrev pub borrowed_arcs : ObjectIdentifier → Option (List ℕ)
borrowed_arcs x = if x.relative then None else arcs false x.octets.now

abbrev pub borrowed_octets : ObjectIdentifier → List ℕ
borrowed_octets x = if x.relative then [] else x.octets.now

-- the octets of an OBJECT IDENTIFIER (8.19), whose arcs may have any size
abbrev pub identifiers : Kind (List ℕ)
identifiers = record {
  tests = λ w. refuse (¬ EndsSubidentifier w) wrong_value ∷ refuse (HasPaddedArc w) wrong_value ∷ [];
  means = λ w v. v ≡ w;
}

-- the octets of a string type that is kept as a text, or of a BMPString (8.23); DER has no other tests
abbrev pub texts : ℕ → Kind (List ℕ)
texts t = record { tests = ber_tests false t; means = λ w v. v ≡ w }

-- a UTCTime (23) has its year by RFC 5280 (4.1.2.5.1)
abbrev pub with_whole_year : ℕ → ASN1DateTime → ASN1DateTime
with_whole_year t x = record x { year = if t == 23 then rfc5280_year x.year else x.year }

-- the fields of a UTCTime or a GeneralizedTime (8.25; by DER 11.7, 11.8)
abbrev pub moments : Rules → ℕ → Kind ASN1DateTime
moments r t = record { tests = leaf_tests r t; means = IsTimeText t }

-- its time, whose year has all digits
abbrev pub times : Rules → ℕ → Kind ASN1DateTime
times r t = record {
  tests = leaf_tests r t;
  means = λ w v. (x : ASN1DateTime) × IsTimeText t w x × (v ≡ with_whole_year t x);
}

-- the one or the other
abbrev pub times_by : Bool → Rules → ℕ → Kind ASN1DateTime
times_by true r t = times r t
times_by false r t = moments r t
