-- The octets that a format reads by DER for the value of one type.
use Rattle.std.proofs.Common.{◌≡◌, ℕ, ◌-◌, ◌%◌, ◌<◌, ◌≤◌, nat_le, ⊎_elim, true, false, ℤ, pos, negsuc, List, [], ◌∷◌, length, map, refl, sym, ap, ◌∙◌, arith, inl, inr}
use Rattle.std.proofs.lemmas.Bool.{cases_lt}
use Rattle.std.proofs.lemmas.Bool.Decides.{nat_tests}
use Rattle.der_base.specs.declared.time.ASN1DateTime.{ASN1DateTime}
use Rattle.der_base.specs.Encoding.{content_octets}
use Rattle.der_base.specs.Leaf.{IsMinimalInteger}
use Rattle.der_base.specs.LeafRefusal.{NoneHolds, integer_tests}
use Rattle.der_base.specs.Numbers.{NumberType}
use Rattle.der_base.specs.Octets.{integer_value, shortest_integer}
use Rattle.der_base.specs.Time.{IsTimeText, rfc5280_year}
use Rattle.der_base.specs.Tree.{boolean, integer, null, time}
use Rattle.der_base.proofs.AllByRecursion.{Each}
use Rattle.der_base.proofs.Octets.MinimalIntegers.{minimal_fewest, minimal_one, some_of_minimal}
use Rattle.der_base.proofs.Octets.Shortest.{IsOctet, shortest_integer_are}
use Rattle.der_values.proofs.LawsLaws.Leaves.AlwaysDer.{passed_written}
use Rattle.der_cursor.specs.Formats.{Value}
use Rattle.der_values.specs.Kinds.{booleans, integers, numbers, enumerated_numbers, bit_strings, octet_strings, nulls, identifiers, texts, times, with_whole_year}
use Rattle.der_writer.specs.Octets.{signed_integer}
use Rattle.der_writer.proofs.Signed.{signed_minimal, signed_value}
use Rattle.der_writer.specs.Formats.Encodings.{AreOctets, IsContentWrittenAs, short_year}

each_octet : (w : List ℕ) → AreOctets w → Each IsOctet w
each_octet [] h = tt
each_octet (b ∷ w) h = (h.0, each_octet w h.1)

never : false ≡ true → ⊥
never e = cc

pub boolean_written : IsContentWrittenAs (Value booleans) (λ v. content_octets (boolean v))
unfolding Value
boolean_written = record { written = λ w v octets h. (passed_written 1 w (boolean v) (each_octet w octets) h.1 (never, h.0)).0 }

pub integer_written : IsContentWrittenAs (Value integers) (λ w. w)
unfolding Value
integer_written = record { written = λ w v octets h. sym h.1 }

-- Numbers.

each_turned : (w : List ℕ) → Each IsOctet (map (λ b. 255 - b) w)
each_turned [] = tt
each_turned (b ∷ w) = (omega arith, each_turned w)

each_signed : (n : ℤ) → Each IsOctet (signed_integer n)
each_signed (pos n) = shortest_integer_are n
each_signed (negsuc n) = each_turned (shortest_integer n)

-- the octets of a number that pass the tests are the fewest
passed_fewest : (w : List ℕ) → AreOctets w → NoneHolds (integer_tests w) → IsMinimalInteger w
passed_fewest w octets h = (passed_written 2 w (integer w) (each_octet w octets) (refl, refl) (never, h)).1

fewest_one : (w : List ℕ) (n : ℤ) → AreOctets w → IsMinimalInteger w → n ≡ integer_value w → w ≡ signed_integer n
fewest_one w n octets m e =
    let v = signed_integer n in
    let are = each_octet w octets in
    let same : integer_value v ≡ integer_value w = signed_value n ∙ e in
    let more : length w ≤ length v = minimal_fewest w v are (each_signed n) m (some_of_minimal v (signed_minimal n)) same in
    let less : length v ≤ length w = minimal_fewest v w (each_signed n) are (signed_minimal n) (some_of_minimal w m) (sym same) in
    sym (minimal_one w v are (each_signed n) m same (omega (arith, more, less)))

pub number_written : (k : NumberType) → IsContentWrittenAs (Value (λ r. numbers r k)) signed_integer
unfolding Value
number_written k = record {
  written = λ w n octets h. fewest_one w n octets (passed_fewest w octets (h.0.0, (h.0.1.0, (h.0.1.1.0, tt)))) h.1;
}

pub enumerated_written : IsContentWrittenAs (Value enumerated_numbers) shortest_integer
unfolding Value
enumerated_written = record {
  written = λ w n octets h. fewest_one w (pos n) octets (passed_fewest w octets (h.0.0, (h.0.1.0, (h.0.1.1.0, tt)))) h.1;
}

-- Octets.

pub bits_written : IsContentWrittenAs (Value bit_strings) (λ v. v.0 ∷ v.1)
unfolding Value
bits_written = record { written = λ w v octets h. h.1 }

pub octets_written : IsContentWrittenAs (Value (λ r. octet_strings)) (λ w. w)
unfolding Value
octets_written = record { written = λ w v octets h. sym h.1 }

pub null_written : IsContentWrittenAs (Value nulls) (λ v. [])
unfolding Value
null_written = record { written = λ w v octets h. (passed_written 5 w null (each_octet w octets) refl (never, h.0)).0 }

pub identifier_written : IsContentWrittenAs (Value (λ r. identifiers)) (λ w. w)
unfolding Value
identifier_written = record { written = λ w v octets h. sym h.1 }

pub text_written : (t : ℕ) → IsContentWrittenAs (Value (λ r. texts t)) (λ w. w)
unfolding Value
text_written t = record { written = λ w v octets h. sym h.1 }

-- Times.

two_last : (n : ℕ) → n < 100 → rfc5280_year n % 100 ≡ n
two_last n few =
    let e : nat_le 100 n ≡ false = grind (arith, nat_tests) in
    ⊎_elim
    (λ h. let f : nat_le 50 n ≡ false = grind (arith, nat_tests) in rw (e, f) (omega (arith, h)))
    (λ h. let f : nat_le 50 n ≡ true = grind (arith, nat_tests) in rw (e, f) (omega (arith, h, few)))
    (cases_lt n 50)

few_years : (w : List ℕ) (x : ASN1DateTime) → IsTimeText 23 w x → x.year < 100
few_years w x (inl h) = h.1.0
few_years w x (inr h) = absurd (omega (arith, h.0))

short_again : (w : List ℕ) (x v : ASN1DateTime) → IsTimeText 23 w x → v ≡ with_whole_year 23 x → x ≡ short_year v
short_again w x v h e =
    ap (λ n. record x { year = n }) (sym (two_last x.year (few_years w x h))) ∙ ap short_year (sym e)

pub utc_written : IsContentWrittenAs (Value (λ r. times r 23)) (λ x. content_octets (time 23 (short_year x)))
unfolding Value
utc_written = record {
  written = λ w v octets (passes, (x, text, e)).
      (passed_written 23 w (time 23 x) (each_octet w octets) (refl, refl, text) (never, passes)).0 ∙ ap (λ y. content_octets (time 23 y)) (short_again w x v text e);
}

pub generalized_written : IsContentWrittenAs (Value (λ r. times r 24)) (λ x. content_octets (time 24 x))
unfolding Value
generalized_written = record {
  written = λ w v octets (passes, (x, text, e)).
      (passed_written 24 w (time 24 x) (each_octet w octets) (refl, refl, text) (never, passes)).0 ∙ ap (λ y. content_octets (time 24 y)) (sym e);
}
