-- Worked rows on object identifiers, computed on the definitions.
use Rattle.std.proofs.Common.{◌≡◌, true, false, [], ◌∷◌, refl, codes, Some, None, Ok, Err}
use Rattle.der_base.specs.declared.error.OidParseError.TheVariants.{TooShort, FirstComponentsTooLarge, ParseInt}
use Rattle.der_base.specs.Arcs.{arcs}
use Rattle.der_base.specs.OidArcs.{octets_of_arcs, dotted_arcs, octets_if_arcs}

rsa : octets_of_arcs false (1 ∷ 2 ∷ 840 ∷ 113549 ∷ 1 ∷ 1 ∷ 5 ∷ []) ≡ Ok (0x2a ∷ 0x86 ∷ 0x48 ∷ 0x86 ∷ 0xf7 ∷ 0x0d ∷ 0x01 ∷ 0x01 ∷ 0x05 ∷ [])
rsa = refl

relative : octets_of_arcs true (8571 ∷ 3 ∷ 2 ∷ []) ≡ Ok (0xc2 ∷ 0x7b ∷ 0x03 ∷ 0x02 ∷ [])
relative = refl

relative_back : arcs true (0xc2 ∷ 0x7b ∷ 0x03 ∷ 0x02 ∷ []) ≡ Some (8571 ∷ 3 ∷ 2 ∷ [])
relative_back = refl

one_arc : octets_of_arcs false (1 ∷ []) ≡ Err TooShort
one_arc = refl

no_relative_arc : octets_of_arcs true [] ≡ Err TooShort
no_relative_arc = refl

second_too_large : octets_of_arcs false (1 ∷ 40 ∷ []) ≡ Err FirstComponentsTooLarge
second_too_large = refl

first_too_large : octets_of_arcs false (3 ∷ 0 ∷ []) ≡ Err FirstComponentsTooLarge
first_too_large = refl

-- 80 and the second arc are 2^64-1, and 2^64
both_fit : octets_of_arcs false (2 ∷ 0xffff_ffff_ffff_ffaf ∷ []) ≡ Ok (0x81 ∷ 0xff ∷ 0xff ∷ 0xff ∷ 0xff ∷ 0xff ∷ 0xff ∷ 0xff ∷ 0xff ∷ 0x7f ∷ [])
both_fit = refl

both_too_large : octets_of_arcs false (2 ∷ 0xffff_ffff_ffff_ffb0 ∷ []) ≡ Err FirstComponentsTooLarge
both_too_large = refl

dotted : octets_if_arcs (dotted_arcs (codes "2.999")) ≡ Ok (0x88 ∷ 0x37 ∷ [])
dotted = refl

leading_zeros : dotted_arcs (codes "01.002.0") ≡ Some (1 ∷ 2 ∷ 0 ∷ [])
leading_zeros = refl

no_component : octets_if_arcs (dotted_arcs (codes "1..2")) ≡ Err ParseInt
no_component = refl

no_text : octets_if_arcs (dotted_arcs []) ≡ Err ParseInt
no_text = refl

a_sign : octets_if_arcs (dotted_arcs (codes "1.+2")) ≡ Err ParseInt
a_sign = refl

a_space : octets_if_arcs (dotted_arcs (codes "1. 2")) ≡ Err ParseInt
a_space = refl

above_64_bits : octets_if_arcs (dotted_arcs (codes "1.2.18446744073709551616")) ≡ Err ParseInt
above_64_bits = refl

-- a component that is none comes before the first two
number_first : octets_if_arcs (dotted_arcs (codes "1.40.x")) ≡ Err ParseInt
number_first = refl

then_arcs : octets_if_arcs (dotted_arcs (codes "1.40")) ≡ Err FirstComponentsTooLarge
then_arcs = refl

-- nine octets, and ten
nine_octets : arcs false (0x2a ∷ 0x81 ∷ 0x81 ∷ 0x81 ∷ 0x81 ∷ 0x81 ∷ 0x81 ∷ 0x81 ∷ 0x81 ∷ 0x00 ∷ []) ≡ Some (1 ∷ 2 ∷ 0x102040810204080 ∷ [])
nine_octets = refl

ten_octets : arcs false (0x2a ∷ 0x81 ∷ 0x81 ∷ 0x81 ∷ 0x81 ∷ 0x81 ∷ 0x81 ∷ 0x81 ∷ 0x81 ∷ 0x81 ∷ 0x00 ∷ []) ≡ None
ten_octets = refl

no_octets : arcs false [] ≡ Some []
no_octets = refl

no_end : arcs false (0x2a ∷ 0x86 ∷ []) ≡ None
no_end = refl
