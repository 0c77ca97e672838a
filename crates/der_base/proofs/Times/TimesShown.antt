-- What is written for a time, piece by piece.
use Rattle.std.proofs.Common.{◌≡◌, ◌≢◌, ◌==◌, ℕ, zero, suc, ◌+◌, ◌-◌, ◌/◌, ◌%◌, ◌^◌, ◌<◌, ◌≤◌, List, [], ◌∷◌, ◌++◌}
use Rattle.std.proofs.Common.{length, length-append, replicate, decimal, refl, sym, ap, ◌∙◌, arith, append_assoc, false}
use Rattle.std.proofs.Common.{if◌then◌else◌, inl, inr, ◌*◌, append-nil}
use Rattle.std.specs.Fmt.{format_spec, styled_decimal, padded_integral, char_count}
use Rattle.std.proofs.Math.Nat.{pow-suc}
use Rattle.std.proofs.lemmas.Bool.{cases_lt}
use Rattle.std.proofs.lemmas.Bool.Decides.{nat_tests}
use Rattle.std.proofs.lemmas.Fmt.{decimal_digit, decimal_step}
use Rattle.der_base.specs.declared.time.ASN1DateTime.{ASN1DateTime}
use Rattle.der_base.specs.Time.{digit, time_text, fraction_text, zone_text, at_least_digits, without_last_zeros, or_zero}
use Rattle.der_base.proofs.Times.DerTimes.{or_some}
use Rattle.der_base.proofs.Octets.Identifiers.{fronts_same}
use Rattle.der_base.proofs.Times.TimeTexts.{at_least_step, zeros_go, stays}
use Rattle.der_base.proofs.Times.TimesWritten.{none_of_zero}

-- a number of two digits or more leaves room for one less
pub wide : (w d : ℕ) → 10 ≤ d → d < 10 ^ (w + 1) → 1 ≤ w
wide zero d h l = absurd (omega (arith, h, l))
wide (suc w) d h l = omega arith

pub fewer : (w d : ℕ) → 1 ≤ w → d < 10 ^ (w + 1) → d / 10 < 10 ^ ((w - 1) + 1)
fewer zero d h l = absurd (omega arith)
fewer (suc w) d h l = let k : (suc w - 1) + 1 ≡ w + 1 = omega arith in
    let g : 10 ^ (suc w + 1) ≡ 10 ^ (w + 1) * 10 = ap (λ n. 10 ^ n) (let q : suc w + 1 ≡ suc (w + 1) = omega arith in q) ∙ pow-suc 10 (w + 1) in
    rw k (omega (arith, l, g))

-- a 0 at the end goes
pub zero_goes : (w d : ℕ) → 1 ≤ w → 10 ≤ d → d < 2 ^ 64 → d % 10 ≡ 0 → without_last_zeros (at_least_digits w d) ≡ without_last_zeros (at_least_digits (w - 1) (d / 10))
zero_goes zero d h some small e = absurd (omega arith)
zero_goes (suc w) d h some small e =
    let z : digit d ≡ 0x30 = omega (arith, e) in
    let k : suc w - 1 ≡ w = omega arith in
    rw k (ap without_last_zeros (at_least_step w d some small ∙ ap (λ b. at_least_digits w (d / 10) ++ b ∷ []) z) ∙ zeros_go (at_least_digits w (d / 10)) 1)

-- the last digit stands at the end
last_digit : (w d : ℕ) → d < 2 ^ 64 → (front : List ℕ) × (at_least_digits w d ≡ front ++ digit d ∷ [])
last_digit w d small = elim (cases_lt d 10) [
  | inl few ↦ (let e : 0x30 + d ≡ digit d = omega arith in
      (replicate (w - length (decimal d)) 0x30, ap (λ l. replicate (w - length (decimal d)) 0x30 ++ l) (decimal_digit d few ∙ ap (λ b. b ∷ []) e)))
  | inr some ↦ (
    replicate (w - length (decimal d)) 0x30 ++ decimal (d / 10),
    ap (λ l. replicate (w - length (decimal d)) 0x30 ++ l) (decimal_step d some small)
        ∙ sym (append_assoc (replicate (w - length (decimal d)) 0x30) (decimal (d / 10)) (digit d ∷ [])),
  )
]

-- digits whose last is no 0 stay
pub nonzero_stays : (w d : ℕ) → d < 2 ^ 64 → d % 10 ≢ 0 → at_least_digits w d ≡ or_zero (without_last_zeros (at_least_digits w d))
nonzero_stays w d small nonzero =
    let k = last_digit w d small in
    let s : without_last_zeros (at_least_digits w d) ≡ at_least_digits w d = stays (at_least_digits w d) (λ f e.
    let q = fronts_same k.0 f (digit d ∷ []) (0x30 ∷ []) (omega (arith, ap length (sym k.1 ∙ e), length-append k.0 (digit d ∷ []), length-append f (0x30 ∷ []))) (sym k.1 ∙ e) in
    let z : digit d ≡ 0x30 = cc (q.1) in
    nonzero (omega (arith, z))) in
    sym (ap or_zero s ∙ or_some (at_least_digits w d) (λ n. let q : [] ≡ k.0 ++ digit d ∷ [] = sym n ∙ k.1 in omega (arith, ap length q, length-append k.0 (digit d ∷ []))))

pub zero_shown : at_least_digits 1 0 ≡ or_zero (without_last_zeros (at_least_digits 9 0))
zero_shown = ap (λ l. replicate (1 - length l) 0x30 ++ l) (decimal_digit 0 (omega arith)) ∙ sym (ap or_zero none_of_zero)

-- a number in at least so many digits, as a format writes it
padded_at_least : (k n : ℕ) → padded_integral (format_spec 32 0 4 k (2 ^ 64 - 1)) false [] (decimal n) ≡ at_least_digits k n
unfolding padded_integral char_count
padded_at_least k n =
    let e : k - length (decimal n) - 0 - 0 ≡ k - length (decimal n) = omega arith in
    ap (λ m. replicate m 0x30 ++ (decimal n ++ [])) e ∙ ap (λ l. replicate (k - length (decimal n)) 0x30 ++ l) (append-nil (decimal n))

pub styled_at_least : (k n : ℕ) → styled_decimal (format_spec 32 0 4 k (2 ^ 64 - 1)) n ≡ at_least_digits k n
styled_at_least zero n = let e : 0 - length (decimal n) ≡ 0 = omega arith in rw e refl
styled_at_least (suc k) n = let e : (suc k == 0) ≡ false = grind (arith, nat_tests) in rw e (padded_at_least (suc k) n)

-- the pieces of a text, one after another
pub text_shown : (k least : ℕ) (t : ASN1DateTime) (month day hour minute second : List ℕ) → least ≡ (if k == 23 then 2 else 4) → month ≡ at_least_digits 2 t.month → day ≡ at_least_digits 2 t.day
    → hour ≡ at_least_digits 2 t.hour → minute ≡ at_least_digits 2 t.minute → second ≡ at_least_digits 2 t.second
    → at_least_digits least t.year ++ (month ++ (day ++ (hour ++ (minute ++ (second ++ (fraction_text t.nanosecond ++ zone_text t.tz)))))) ≡ time_text k t
text_shown k least t month day hour minute second y mo d h mi s = rw (y, mo, d, h, mi, s) (simp append_assoc)
