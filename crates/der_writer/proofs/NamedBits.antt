-- Octets without those of 0 at their end.
use Rattle.std.proofs.Common.{◌≡◌, ◌≢◌, ℕ, ◌+◌, ◌-◌, ◌≤◌, ◌==◌, Bool, true, false, List, [], ◌∷◌, ◌++◌, length, length-append, take, get_or, refl, sym, ap, ◌∙◌, arith}
use Rattle.std.proofs.lemmas.Bool.Decides.{nat_tests}
use Rattle.std.proofs.lemmas.List.{take_more}
use Rattle.std.specs.Prelude.{◌&&◌, if◌then◌else◌}
use Rattle.std.specs.Int.{w8, trailing_zeros}
use Rattle.der_writer.specs.Octets.{last_zero_bits, without_last_zeros}

-- one of 0 at the end doesn't count
zero_goes : (w : List ℕ) → without_last_zeros (w ++ 0 ∷ []) ≡ without_last_zeros w
zero_goes [] = refl
zero_goes (b ∷ w) = rw (zero_goes w) refl

neither : (x : Bool) → (x && false) ≡ false
neither true = refl
neither false = refl

kept : (a : ℕ) (rest : List ℕ) → 1 ≤ length rest → (if a == 0 && length rest == 0 then [] else a ∷ rest) ≡ a ∷ rest
kept a rest some =
    let e : (length rest == 0) ≡ false = grind (arith, nat_tests) in
    rw (e, neither (a == 0)) refl

-- with another at the end all stay
other_stays : (w : List ℕ) (b : ℕ) → b ≢ 0 → without_last_zeros (w ++ b ∷ []) ≡ w ++ b ∷ []
other_stays [] b other = let e : (b == 0) ≡ false = grind (arith, nat_tests) in rw e refl
other_stays (a ∷ w) b other = rw (other_stays w b other) (kept a (w ++ b ∷ []) (omega (arith, length-append w (b ∷ []))))

one_more : (n : ℕ) (w : List ℕ) → 1 ≤ n → n ≤ length w → take n w ≡ take (n - 1) w ++ get_or w (n - 1) 0 ∷ []
one_more n w some within =
    let k : n - 1 + 1 ≡ n = omega arith in
    ap (λ j. take j w) (sym k) ∙ take_more w (n - 1) 0 (omega arith)

-- a step from the end
pub less : (n : ℕ) (w : List ℕ) → 1 ≤ n → n ≤ length w → get_or w (n - 1) 0 ≡ 0
    → without_last_zeros (take (n - 1) w) ≡ without_last_zeros (take n w)
less n w some within e =
    let t : take n w ≡ take (n - 1) w ++ 0 ∷ [] = one_more n w some within ∙ ap (λ b. take (n - 1) w ++ b ∷ []) e in
    sym (zero_goes (take (n - 1) w)) ∙ ap without_last_zeros (sym t)

-- and its end
pub stays : (n : ℕ) (w : List ℕ) → 1 ≤ n → n ≤ length w → get_or w (n - 1) 0 ≢ 0 → take n w ≡ without_last_zeros (take n w)
stays n w some within other =
    let t = one_more n w some within in
    t ∙ sym (other_stays (take (n - 1) w) (get_or w (n - 1) 0) other) ∙ ap without_last_zeros (sym t)

-- the last bits of the last octet
pub zero_bits_of : (w front : List ℕ) (b : ℕ) → w ≡ front ++ b ∷ [] → trailing_zeros w8 b ≡ last_zero_bits w
zero_bits_of w [] b e = rw e refl
zero_bits_of w (a ∷ []) b e = rw e refl
zero_bits_of w (a ∷ c ∷ front) b e = rw e (zero_bits_of (c ∷ front ++ b ∷ []) (c ∷ front) b refl)

pub none_left : (n : ℕ) (w : List ℕ) → n ≡ 0 → take n w ≡ without_last_zeros (take n w)
none_left n w e = rw e refl
