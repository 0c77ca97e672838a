-- Laws of the tests of numbers: each content has one answer, and a number that is answered fits its type.
use Rattle.std.proofs.Common.{ℕ, List, inl, inr}
use Rattle.std.specs.Prelude.{ℤ}
use Rattle.der_base.specs.Laws.{NumberOrRefused, NumbersPass, HaveOneNumberRefusal, NumbersFit}
use Rattle.der_base.specs.Octets.{integer_value}
use Rattle.der_base.specs.Numbers.{NumberType, signed, unsigned, least, greatest, fits_tests, sign_tests, number_tests}
use Rattle.der_base.specs.Tree.{Content, integer, enumerated, bit_string}
use Rattle.der_base.proofs.Leaves.Decided.{decided_or, decided_less, decided_below}
use Rattle.der_base.proofs.Leaves.Refusals.{AllDecided, first_or_none, none_refuses, first_refusal_once, decided_append, none_of_back}

fits_decided : (k : NumberType) (v : ℤ) → AllDecided (fits_tests k v)
fits_decided k v = (decided_or _ _ (decided_less v (least k)) (decided_less (greatest k) v), tt)

sign_decided : (k : NumberType) (w : List ℕ) → AllDecided (sign_tests k w)
sign_decided (signed bits) w = tt
sign_decided (unsigned bits) w = (decided_less _ _, tt)

pub number_decided : (k : NumberType) (x : Content) → AllDecided (number_tests k x)
number_decided k (integer w) = decided_append (sign_tests k w) _ (sign_decided k w) (fits_decided k (integer_value w))
number_decided (unsigned bits) (enumerated n) = fits_decided (unsigned bits) _
number_decided (unsigned bits) (bit_string u w) = (decided_below _ _, (decided_below _ _, fits_decided (unsigned bits) _))
number_decided (unsigned bits) _ = (inl tt, tt)
number_decided (signed bits) _ = (inl tt, tt)

-- each content has a number or a refusal
pub number_or_refused : NumberOrRefused
number_or_refused k x = elim (first_or_none (number_tests k x) (number_decided k x)) [ inl r ↦ inr r | inr n ↦ inl n ]

-- never both
pub numbers_pass : NumbersPass
numbers_pass k x e n = none_refuses (number_tests k x) e n

-- and no two refusals
pub one_number_refusal : HaveOneNumberRefusal
one_number_refusal k x e e' = first_refusal_once (number_tests k x) e e'

-- a number that is answered fits
pub numbers_fit : NumbersFit
numbers_fit k (integer w) n = let h = none_of_back (sign_tests k w) (fits_tests k (integer_value w)) n in ((λ l. h.0 (inl l)), (λ l. h.0 (inr l)))
numbers_fit (unsigned bits) (enumerated m) n = ((λ l. n.0 (inl l)), (λ l. n.0 (inr l)))
numbers_fit (unsigned bits) (bit_string u w) n = ((λ l. n.1.1.0 (inl l)), (λ l. n.1.1.0 (inr l)))
numbers_fit (unsigned bits) _ n = absurd (n.0 tt)
numbers_fit (signed bits) _ n = absurd (n.0 tt)
