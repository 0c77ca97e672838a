-- Content octets have one value.
use Rattle.std.proofs.Common.{◌≡◌, ℕ, ◌∷◌, refl, sym, ap, ◌∙◌}
use Rattle.std.specs.Prelude.{pos, not, ◌==◌}
use Rattle.der_base.specs.declared.rules.Rules.{Rules}
use Rattle.der_base.specs.Numbers.{NumberType}
use Rattle.der_base.proofs.Times.OneReading.{times_same}
use Rattle.der_values.specs.Kinds.{booleans, integers, numbers, enumerated_numbers, bit_strings, octet_strings, nulls, identifiers, texts, times, with_whole_year}
use Rattle.der_cursor.proofs.ValueLaws.{HasOneValue}

pub boolean_one : (r : Rules) → HasOneValue (booleans r)
boolean_one r w v u a b = let e : a.2 ≡ b.2 = cc in a.4 ∙ ap (λ x. not (x == 0)) e ∙ sym b.4

pub integer_one : (r : Rules) → HasOneValue (integers r)
integer_one r w v u a b = a ∙ sym b

pub number_one : (r : Rules) (k : NumberType) → HasOneValue (numbers r k)
number_one r k w v u a b = a ∙ sym b

pub enumerated_one : (r : Rules) → HasOneValue (enumerated_numbers r)
enumerated_one r w v u a b = let e : pos v ≡ pos u = a ∙ sym b in cc

pub bits_one : (r : Rules) → HasOneValue (bit_strings r)
bits_one r w v u a b =
    let e : v.0 ∷ v.1 ≡ u.0 ∷ u.1 = sym a ∙ b in
    let f : v.0 ≡ u.0 = cc in
    let g : v.1 ≡ u.1 = cc in
    ap (λ x. (x, v.1)) f ∙ ap (λ y. (u.0, y)) g

pub octets_one : HasOneValue octet_strings
octets_one w v u a b = a ∙ sym b

pub null_one : (r : Rules) → HasOneValue (nulls r)
null_one r w v u a b = refl

pub identifier_one : HasOneValue identifiers
identifier_one w v u a b = a ∙ sym b

pub text_one : (t : ℕ) → HasOneValue (texts t)
text_one t w v u a b = a ∙ sym b

pub time_one : (r : Rules) (t : ℕ) → HasOneValue (times r t)
time_one r t w v u (x, h, e) (y, g, f) = e ∙ ap (with_whole_year t) (times_same t w x y h g) ∙ sym f
