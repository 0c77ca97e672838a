-- The first octets of the parts of times and of decimal numbers.
use Rattle.std.proofs.Common.{◌≡◌, ℕ, ◌⊎◌, Bool, true, List, [], ◌∷◌, ◌++◌, sym, ap, subst, ◌∙◌, inl, inr, arith}
use Rattle.std.proofs.Common.{codes, IsTrue}
use Rattle.std.specs.Prelude.{◌↔◌}
use Rattle.der_base.specs.Time.{IsDigit}
use Rattle.der_contents.specs.Grammar.{IsSpace, IsPlus, IsMinus, IsSign, IsPoint, IsMark, Ends, BeginsWithNo, OneThen}
use Rattle.der_contents.specs.Grammar.{MaybeThen, ToNonzeroThen, NumberThen}
use Rattle.der_contents.specs.RealForms.{IsWhole, IsExponentMark, IsPower, IsMarkedPower, IsOfForm, IsStrictWhole}
use Rattle.der_contents.specs.RealForms.{IsStrictPower, IsStrictMantissa}
use Rattle.der_contents.specs.TimeForms.{MonthToHour, UtcToMinute, CenturyToHour, IsZone, IsLastZone, EndsTime}
use Rattle.der_contents.specs.TimeForms.{HasLastZero}
use Rattle.der_base.proofs.Octets.Identifiers.{head_same}
use Rattle.der_contents.proofs.GrammarLaws.{IsFront, joined, number_front, one_begins}

pub end_begins : (P : ℕ → Type 0) (w : List ℕ) → Ends w → BeginsWithNo P w
end_begins P w e = subst (BeginsWithNo P) (sym e) tt

pub sign_no_digit : (b : ℕ) → IsSign b → ¬ IsDigit b
sign_no_digit b (inl e) d = omega (arith, e, d.0)
sign_no_digit b (inr e) d = omega (arith, e, d.0)

pub mark_no_digit : (b : ℕ) → IsMark b → ¬ IsDigit b
mark_no_digit b (inl e) d = omega (arith, e, d.0)
mark_no_digit b (inr e) d = omega (arith, e, d.0)

pub sign_no_mark : (b : ℕ) → IsSign b → ¬ IsMark b
sign_no_mark b (inl e) (inl f) = omega (arith, e, f)
sign_no_mark b (inl e) (inr f) = omega (arith, e, f)
sign_no_mark b (inr e) (inl f) = omega (arith, e, f)
sign_no_mark b (inr e) (inr f) = omega (arith, e, f)

pub digit_no_sign : (b : ℕ) → IsDigit b → ¬ IsSign b
digit_no_sign b d s = sign_no_digit b s d

pub mark_no_sign : (b : ℕ) → IsMark b → ¬ IsSign b
mark_no_sign b m s = sign_no_mark b s m

-- times

z_no_digit : (w : List ℕ) → w ≡ codes "Z" → BeginsWithNo IsDigit w
z_no_digit w e = subst (BeginsWithNo IsDigit) (sym e) (λ d. omega (arith, d.1))

z_no_mark : (w : List ℕ) → w ≡ codes "Z" → BeginsWithNo IsMark w
z_no_mark w e =
    subst (BeginsWithNo IsMark) (sym e) (λ m. elim m [ inl f ↦ omega (arith, f) | inr f ↦ omega (arith, f) ])

pub z_no_sign : (w : List ℕ) → w ≡ codes "Z" → BeginsWithNo IsSign w
z_no_sign w e =
    subst (BeginsWithNo IsSign) (sym e) (λ m. elim m [ inl f ↦ omega (arith, f) | inr f ↦ omega (arith, f) ])

pub z_or_end_no_sign : (w : List ℕ) → (w ≡ codes "Z") ⊎ Ends w → BeginsWithNo IsSign w
z_or_end_no_sign w (inl e) = z_no_sign w e
z_or_end_no_sign w (inr e) = end_begins IsSign w e

pub zone_no_digit : (w : List ℕ) → IsZone w → BeginsWithNo IsDigit w
zone_no_digit w (inl o) = one_begins IsSign IsDigit _ w sign_no_digit o
zone_no_digit w (inr e) = z_no_digit w e

pub last_zone_no_digit : (w : List ℕ) → IsLastZone w → BeginsWithNo IsDigit w
last_zone_no_digit w (inl o) = one_begins IsSign IsDigit _ w sign_no_digit o
last_zone_no_digit w (inr (inl e)) = z_no_digit w e
last_zone_no_digit w (inr (inr e)) = end_begins IsDigit w e

pub last_zone_no_mark : (w : List ℕ) → IsLastZone w → BeginsWithNo IsMark w
last_zone_no_mark w (inl o) = one_begins IsSign IsMark _ w sign_no_mark o
last_zone_no_mark w (inr (inl e)) = z_no_mark w e
last_zone_no_mark w (inr (inr e)) = end_begins IsMark w e

pub ends_time_no_digit : (w : List ℕ) → EndsTime w → BeginsWithNo IsDigit w
ends_time_no_digit w (inl o) = one_begins IsMark IsDigit _ w mark_no_digit o
ends_time_no_digit w (inr z) = last_zone_no_digit w z

-- decimal numbers

pub marked_no_digit : (G : List ℕ → Type 0) (w : List ℕ) → OneThen IsMark G w → BeginsWithNo IsDigit w
marked_no_digit G w o = one_begins IsMark IsDigit G w mark_no_digit o

exponent_no_digit : (b : ℕ) → IsExponentMark b → ¬ IsDigit b
exponent_no_digit b (inl e) d = omega (arith, e, d.1)
exponent_no_digit b (inr e) d = omega (arith, e, d.1)

exponent_no_mark : (b : ℕ) → IsExponentMark b → ¬ IsMark b
exponent_no_mark b (inl e) (inl f) = omega (arith, e, f)
exponent_no_mark b (inl e) (inr f) = omega (arith, e, f)
exponent_no_mark b (inr e) (inl f) = omega (arith, e, f)
exponent_no_mark b (inr e) (inr f) = omega (arith, e, f)

pub power_no_digit : (w : List ℕ) → IsPower w → BeginsWithNo IsDigit w
power_no_digit w o = one_begins IsExponentMark IsDigit _ w exponent_no_digit o

pub power_no_mark : (w : List ℕ) → IsPower w → BeginsWithNo IsMark w
power_no_mark w o = one_begins IsExponentMark IsMark _ w exponent_no_mark o

pub marked_power_no_digit : (w : List ℕ) → IsMarkedPower w → BeginsWithNo IsDigit w
marked_power_no_digit w (inl o) = marked_no_digit _ w o
marked_power_no_digit w (inr o) = power_no_digit w o

pub whole_no_sign : (w : List ℕ) → IsWhole w → BeginsWithNo IsSign w
whole_no_sign w o = one_begins IsDigit IsSign _ w digit_no_sign o

-- the first octet of a number is a digit or a mark
form_begins : (Q : ℕ → Type 0) → ((b : ℕ) → IsDigit b → ¬ Q b) → ((b : ℕ) → IsMark b → ¬ Q b) → (a : ℕ) (w : List ℕ)
    → IsOfForm a w → BeginsWithNo Q w
form_begins Q d m a w (inl h) = one_begins IsDigit Q _ w d h.1
form_begins Q d m a w (inr (inl (e, inl o))) = one_begins IsDigit Q _ w d o
form_begins Q d m a w (inr (inl (e, inr o))) = one_begins IsMark Q _ w m o
form_begins Q d m a w (inr (inr (e, inl o))) = one_begins IsDigit Q _ w d o
form_begins Q d m a w (inr (inr (e, inr o))) = one_begins IsMark Q _ w m o

pub form_no_sign : (a : ℕ) (w : List ℕ) → IsOfForm a w → BeginsWithNo IsSign w
form_no_sign a w h = form_begins IsSign digit_no_sign mark_no_sign a w h

digit_no_space : (b : ℕ) → IsDigit b → ¬ IsSpace b
digit_no_space b d e = omega (arith, e, d.0)

mark_no_space : (b : ℕ) → IsMark b → ¬ IsSpace b
mark_no_space b (inl e) f = omega (arith, e, f)
mark_no_space b (inr e) f = omega (arith, e, f)

sign_no_space : (b : ℕ) → IsSign b → ¬ IsSpace b
sign_no_space b (inl e) f = omega (arith, e, f)
sign_no_space b (inr e) f = omega (arith, e, f)

pub signed_no_space : (a : ℕ) (w : List ℕ) → MaybeThen IsSign (IsOfForm a) w → BeginsWithNo IsSpace w
signed_no_space a w (inl o) = one_begins IsSign IsSpace _ w sign_no_space o
signed_no_space a w (inr h) = form_begins IsSpace digit_no_space mark_no_space a w h

digit_no_minus : (b : ℕ) → IsDigit b → ¬ IsMinus b
digit_no_minus b d e = omega (arith, e, d.0)

digit_no_plus : (b : ℕ) → IsDigit b → ¬ IsPlus b
digit_no_plus b d e = omega (arith, e, d.0)

minus_no_plus : (b : ℕ) → IsMinus b → ¬ IsPlus b
minus_no_plus b d e = omega (arith, e, d)

point_no_digit : (b : ℕ) → IsPoint b → ¬ IsDigit b
point_no_digit b e d = omega (arith, e, d.0)

nonzero_begins : (Q : ℕ → Type 0) → ((b : ℕ) → IsDigit b → ¬ Q b) → (G : List ℕ → Type 0) (w : List ℕ)
    → ToNonzeroThen G w → BeginsWithNo Q w
nonzero_begins Q d G [] h = absurd h
nonzero_begins Q d G (b ∷ w) h = d b h.0

pub mantissa_no_minus : (w : List ℕ) → IsStrictMantissa w → BeginsWithNo IsMinus w
mantissa_no_minus w h = nonzero_begins IsMinus digit_no_minus IsStrictPower w h.1

pub strict_whole_no_minus : (w : List ℕ) → IsStrictWhole w → BeginsWithNo IsMinus w
strict_whole_no_minus w h = one_begins IsDigit IsMinus _ w digit_no_minus h.1

pub strict_power_no_digit : (w : List ℕ) → IsStrictPower w → BeginsWithNo IsDigit w
strict_power_no_digit w o = one_begins IsPoint IsDigit _ w point_no_digit o

pub negative_no_plus : (w : List ℕ) → MaybeThen IsMinus IsStrictWhole w → BeginsWithNo IsPlus w
negative_no_plus w (inl o) = one_begins IsMinus IsPlus _ w minus_no_plus o
negative_no_plus w (inr h) = one_begins IsDigit IsPlus _ w digit_no_plus h.1

-- the fronts of times

pub month_to_hour_front : IsFront MonthToHour
month_to_hour_front =
    joined (NumberThen 1 12) (λ G. NumberThen 1 31 (NumberThen 0 23 G)) (number_front 1 12)
    (joined (NumberThen 1 31) (NumberThen 0 23) (number_front 1 31) (number_front 0 23))

pub utc_front : IsFront UtcToMinute
utc_front =
    joined (NumberThen 0 99) (λ G. MonthToHour (NumberThen 0 59 G)) (number_front 0 99)
    (joined MonthToHour (NumberThen 0 59) month_to_hour_front (number_front 0 59))

pub generalized_front : IsFront CenturyToHour
generalized_front =
    joined (NumberThen 0 99) (λ G. NumberThen 0 99 (MonthToHour G)) (number_front 0 99)
    (joined (NumberThen 0 99) MonthToHour (number_front 0 99) month_to_hour_front)

-- a point in front, and 0Z at the end
pub last_zero_by : (w behind front : List ℕ) (r : Bool) → w ≡ codes "." ++ behind
    → (r ≡ true → w ≡ front ++ codes "0Z") → ((f : List ℕ) → w ≡ f ++ codes "0Z" → r ≡ true)
    → IsTrue r ↔ HasLastZero w
last_zero_by w behind front r point there back = ((λ h. pointed front (there h)), (λ h. back (0x2E ∷ h.0) h.1))
  where
    pointed : (f : List ℕ) → w ≡ f ++ codes "0Z" → HasLastZero w
    pointed [] e = absurd (omega (arith, (head_same (sym point ∙ e)).0))
    pointed (b ∷ f) e = (f, point ∙ ap (λ l. 0x2E ∷ l) (head_same (sym point ∙ e)).1)
