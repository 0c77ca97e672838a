-- What an error says of an input.
use Rattle.std.proofs.Common.{◌≡◌, ℕ, true, false, List, refl, sym, ap, ◌∙◌}
use Rattle.der_elements.specs.declared.cause.Cause.{Cause}
use Rattle.der_elements.specs.declared.cause.Cause.TheVariants.{NotDer, Value}
use Rattle.der_elements.specs.declared.error.ElementError.{ElementError}
use Rattle.der_elements.specs.declared.walk.Walk.{Walk}
use Rattle.der_elements.specs.Visits.{Visited}
use Rattle.der_canon.specs.declared.error.NotCanonical.{NotCanonical}
use Rattle.der_canon.specs.Errors.{IsErrorOf, IsFirstError, first, large, string, ber, der}
use Rattle.der_canon.specs.NoDer.{HasNoDer, other, unused, part, value}
use Rattle.der_canon.specs.Written.{IsRefusalOf, is_about_der}
use Rattle.der_canon.proofs.AllVisited.{all_visited}

about : (c k : Cause) → c ≡ k → is_about_der k ≡ true → is_about_der c ≡ true
about c k e h = ap is_about_der e ∙ h

pub about_der : (i : List ℕ) (vs : List Visited) (v : Visited) (c : Cause) → HasNoDer i vs v c → is_about_der c ≡ true
about_der i vs v c (part (other x s l never e)) = about c _ e refl
about_der i vs v c (part (unused x s l k n u e)) = about c _ e refl
about_der i vs v c (value a b k h) = about c _ h.2 refl

differ : {A : Type 0} → true ≡ false → A
differ e = absurd (cc)

of_first : (i : List ℕ) (vs : List Visited) (w : Walk) (f : ElementError) (e : NotCanonical) → IsFirstError i vs w f → e.cause ≡ f.cause → IsRefusalOf i e
of_first i vs w f e (ber refused) same = λ h a. let v = all_visited a 0 0 in refused.never v.0 v.1
of_first i vs w f e (der v visited none place step) same = λ h. differ (sym (about e.cause f.cause same (about_der i vs v f.cause none)) ∙ h)

-- one that isn't about DER says that the input isn't elements by BER
pub refusal_of : (i : List ℕ) (e : NotCanonical) → IsErrorOf i e → IsRefusalOf i e
refusal_of i e (first f) = of_first i f.before f.walk f.refusal e f.error f.told.cause
refusal_of i e (large l) = λ k. differ (sym (about e.cause NotDer l.cause refl) ∙ k)
refusal_of i e (string all s) = λ k. differ (sym (about e.cause (Value s.error) s.cause refl) ∙ k)
