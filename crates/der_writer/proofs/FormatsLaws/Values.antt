-- Octets that encode the value of one type.
use Rattle.std.proofs.Common.{◌≡◌, ℕ, ◌-◌, ◌^◌, ◌<◌, ◌⊎◌, ⊎_elim, Bool, true, false, ℤ, pos, List, [], ◌∷◌, refl, sym, arith, lit<, inr}
use Rattle.std.specs.Prelude.{◌<ℤ◌, IsTrue}
use Rattle.std.proofs.lemmas.Int.{ints}
use Rattle.der_base.specs.declared.rules.Rules.TheVariants.{Der}
use Rattle.der_base.specs.declared.time.ASN1DateTime.{ASN1DateTime}
use Rattle.der_base.specs.Encoding.{content_octets}
use Rattle.der_base.specs.Leaf.{IsDerLeaf, IsMinimalInteger, HasZeroUnusedBits}
use Rattle.der_base.specs.LeafRefusal.{NoneHolds, integer_tests}
use Rattle.der_base.specs.Numbers.{signed, unsigned, least, greatest}
use Rattle.der_base.specs.Octets.{integer_value, shortest_integer}
use Rattle.der_base.specs.Text.{is_text_type, IsTextOf}
use Rattle.der_base.specs.Tree.{boolean, bit_string, enumerated, null, string, time}
use Rattle.der_base.proofs.Octets.Shortest.{integer_shortest}
use Rattle.der_values.proofs.LawsLaws.Leaves.NeverBoth.{ber_passes, der_passes, minimal_passes}
use Rattle.der_cursor.specs.Formats.{Value, Required, Boolean, Integer, Number, Enumerated, BitString, OctetString, Null, ObjectIdentifier, Text, UtcTime, GeneralizedTime}
use Rattle.der_values.specs.Kinds.{booleans, integers, numbers, enumerated_numbers, bit_strings, octet_strings, nulls, identifiers, texts, times}
use Rattle.der_values.specs.Kinds.{EndsSubidentifier, HasPaddedArc, with_whole_year}
use Rattle.der_writer.specs.Fields as put
use Rattle.der_writer.specs.Octets.{signed_integer}
use Rattle.der_writer.proofs.Signed.{signed_minimal, signed_value}
use Rattle.der_writer.specs.Formats.Encodings.{Encodes}
use Rattle.der_writer.proofs.FormatsLaws.Encoded.{primitive_encodes}

-- Contents.

boolean_leaf : (v : Bool) → IsDerLeaf 1 (boolean v)
boolean_leaf true = ((refl, refl, 255, refl, refl), tt)
boolean_leaf false = ((refl, refl, 0, refl, refl), tt)

pub boolean_value : (v : Bool) → Value booleans Der (content_octets (boolean v)) v
unfolding Value
boolean_value v = ((der_passes 1 (boolean v) (boolean_leaf v)).1, (boolean_leaf v).0)

pub integer_octets : (w : List ℕ) → IsMinimalInteger w → Value integers Der w w
unfolding Value
integer_octets w m = (minimal_passes w m, refl)

pub signed_number : (bits : ℕ) (n : ℤ) → ¬ ((n <ℤ least (signed bits)) ⊎ (greatest (signed bits) <ℤ n))
    → Value (λ r. numbers r (signed bits)) Der (signed_integer n) n
unfolding Value
signed_number bits n fits =
    let passes : NoneHolds (integer_tests (signed_integer n)) = minimal_passes (signed_integer n) (signed_minimal n) in
    let value : integer_value (signed_integer n) ≡ n = signed_value n in
    ((passes.0, (passes.1.0, (passes.1.1.0, (rw value fits, tt)))), sym value)

pub unsigned_number : (bits n : ℕ) → n < 2 ^ bits → Value (λ r. numbers r (unsigned bits)) Der (shortest_integer n) (pos n)
unfolding Value
unsigned_number bits n few =
    let passes : NoneHolds (integer_tests (shortest_integer n)) = minimal_passes (shortest_integer n) (signed_minimal (pos n)) in
    let value : integer_value (shortest_integer n) ≡ pos n = integer_shortest n in
    let natural : ¬ (pos n <ℤ pos 0) = λ h. absurd (omega (arith, ints, h)) in
    let fits : ¬ ((pos n <ℤ pos 0) ⊎ (pos (2 ^ bits - 1) <ℤ pos n)) = λ k. ⊎_elim natural (λ h. absurd (omega (arith, ints, h, few))) k in
    ((passes.0, (passes.1.0, (passes.1.1.0, (rw value natural, (rw value fits, tt))))), sym value)

pub enumerated_value : (n : ℕ) → n < 2 ^ 64 → Value enumerated_numbers Der (shortest_integer n) n
unfolding Value
enumerated_value n few =
    let leaf : IsDerLeaf 10 (enumerated n) = ((refl, refl, few, integer_shortest n), tt) in
    ((der_passes 10 (enumerated n) leaf).1, sym (integer_shortest n))

pub bits_value : (u : ℕ) (w : List ℕ) → HasZeroUnusedBits u w → Value bit_strings Der (u ∷ w) (u, w)
unfolding Value
bits_value u w zero =
    let leaf : IsDerLeaf 3 (bit_string u w) = ((refl, refl, refl), zero) in
    ((der_passes 3 (bit_string u w) leaf).1, refl)

pub octets_value : (w : List ℕ) → Value (λ r. octet_strings) Der w w
unfolding Value
octets_value w = (tt, refl)

pub null_value : Value nulls Der [] tt
unfolding Value
null_value = ((der_passes 5 null (refl, tt)).1, tt)

pub identifier_value : (w : List ℕ) → EndsSubidentifier w → ¬ HasPaddedArc w → Value (λ r. identifiers) Der w w
unfolding Value
identifier_value w ends plain = (((λ h. h ends), (plain, tt)), refl)

pub text_value : (t : ℕ) (w : List ℕ) → IsTrue (is_text_type t) → IsTextOf t w → Value (λ r. texts t) Der w w
unfolding Value
text_value t w text set = (ber_passes false t w (string t w) (refl, inr (inr (inr (text, refl, set))), refl), refl)

pub utc_value : (x : ASN1DateTime) → IsDerLeaf 23 (time 23 x) → Value (λ r. times r 23) Der (content_octets (time 23 x)) (with_whole_year 23 x)
unfolding Value
utc_value x leaf = ((der_passes 23 (time 23 x) leaf).1, (x, leaf.0.2, refl))

pub generalized_value : (x : ASN1DateTime) → IsDerLeaf 24 (time 24 x) → Value (λ r. times r 24) Der (content_octets (time 24 x)) x
unfolding Value
generalized_value x leaf = ((der_passes 24 (time 24 x) leaf).1, (x, leaf.0.2, refl))

-- Elements.

pub boolean_encodes : (v : Bool) → Encodes (Required Boolean) v (put.Boolean v)
boolean_encodes v = primitive_encodes booleans 1 (content_octets (boolean v)) v (lit< tt) (boolean_value v)

pub signed_encodes : (bits : ℕ) (n : ℤ) → ¬ ((n <ℤ least (signed bits)) ⊎ (greatest (signed bits) <ℤ n))
    → Encodes (Required (Number (signed bits))) n (put.Integer n)
signed_encodes bits n fits = primitive_encodes (λ r. numbers r (signed bits)) 2 (signed_integer n) n (lit< tt) (signed_number bits n fits)

pub unsigned_encodes : (bits n : ℕ) → n < 2 ^ bits → Encodes (Required (Number (unsigned bits))) (pos n) (put.Integer (pos n))
unsigned_encodes bits n few = primitive_encodes (λ r. numbers r (unsigned bits)) 2 (shortest_integer n) (pos n) (lit< tt) (unsigned_number bits n few)

pub integer_encodes : (w : List ℕ) → IsMinimalInteger w → Encodes (Required Integer) w (put.IntegerOctets w)
integer_encodes w m = primitive_encodes integers 2 w w (lit< tt) (integer_octets w m)

pub enumerated_encodes : (n : ℕ) → n < 2 ^ 64 → Encodes (Required Enumerated) n (put.Enumerated n)
enumerated_encodes n few = primitive_encodes enumerated_numbers 10 (shortest_integer n) n (lit< tt) (enumerated_value n few)

pub bits_encode : (u : ℕ) (w : List ℕ) → HasZeroUnusedBits u w → Encodes (Required BitString) (u, w) (put.BitString u w)
bits_encode u w zero = primitive_encodes bit_strings 3 (u ∷ w) (u, w) (lit< tt) (bits_value u w zero)

pub octets_encode : (w : List ℕ) → Encodes (Required OctetString) w (put.OctetString w)
octets_encode w = primitive_encodes (λ r. octet_strings) 4 w w (lit< tt) (octets_value w)

pub null_encodes : Encodes (Required Null) tt put.Null
null_encodes = primitive_encodes nulls 5 [] tt (lit< tt) null_value

pub identifier_encodes : (w : List ℕ) → EndsSubidentifier w → ¬ HasPaddedArc w → Encodes (Required ObjectIdentifier) w (put.ObjectIdentifier w)
identifier_encodes w ends plain = primitive_encodes (λ r. identifiers) 6 w w (lit< tt) (identifier_value w ends plain)

pub text_encodes : (t : ℕ) (w : List ℕ) → t < 2 ^ 32 → IsTrue (is_text_type t) → IsTextOf t w → Encodes (Required (Text t)) w (put.Text t w)
text_encodes t w small text set = primitive_encodes (λ r. texts t) t w w small (text_value t w text set)

pub utc_encodes : (x : ASN1DateTime) → IsDerLeaf 23 (time 23 x) → Encodes (Required UtcTime) (with_whole_year 23 x) (put.UtcTime x)
utc_encodes x leaf = primitive_encodes (λ r. times r 23) 23 (content_octets (time 23 x)) (with_whole_year 23 x) (lit< tt) (utc_value x leaf)

pub generalized_encodes : (x : ASN1DateTime) → IsDerLeaf 24 (time 24 x) → Encodes (Required GeneralizedTime) x (put.GeneralizedTime x)
generalized_encodes x leaf = primitive_encodes (λ r. times r 24) 24 (content_octets (time 24 x)) x (lit< tt) (generalized_value x leaf)
