-- The texts that are written for times: digits, and fractions without zeros at the end.
use Rattle.std.proofs.Common.{◌≡◌, ◌≢◌, ℕ, zero, suc, ◌+◌, ◌-◌, ◌*◌, ◌/◌, ◌%◌, ◌^◌, ◌<◌, ◌≤◌, ◌⊎◌, ◌==◌, Bool, true}
use Rattle.std.proofs.Common.{false, List, [], ◌∷◌, ◌++◌, length, replicate, refl, sym, ap, subst, ◌∙◌, arith, inl, inr}
use Rattle.std.proofs.Common.{append_assoc, decimal, length-append, ⊎_elim, append-nil}
use Rattle.std.proofs.lemmas.List.{length-replicate}
use Rattle.std.proofs.Math.Nat.{pow-suc, mul-le-mul_right, mul_assoc, mul_comm}
use Rattle.std.proofs.lemmas.Bool.{cases_lt}
use Rattle.std.proofs.lemmas.Bool.Decides.{Decides-eqb}
use Rattle.std.proofs.lemmas.Fmt.{decimal_digit, decimal_step}
use Rattle.der_base.proofs.AllByRecursion.{Each, each_append}
use Rattle.der_base.proofs.Leaves.Decided.{never}
use Rattle.der_base.specs.Time.{digit, two_digits, four_digits, decimal_from, IsDigit, at_least_digits, without_last_zeros}

-- the last k digits of n, in front of others
abbrev pub padded : ℕ → ℕ → List ℕ → List ℕ
padded zero n after = after
padded (suc k) n after = padded k (n / 10) (digit n ∷ after)

more_zeros : (k : ℕ) (x : List ℕ) → replicate k 0x30 ++ 0x30 ∷ x ≡ 0x30 ∷ replicate k 0x30 ++ x
more_zeros zero x = refl
more_zeros (suc k) x = ap (λ l. 0x30 ∷ l) (more_zeros k x)

padded_zero : (k : ℕ) (x : List ℕ) → padded k 0 x ≡ replicate k 0x30 ++ x
padded_zero zero x = refl
padded_zero (suc k) x = padded_zero k (0x30 ∷ x) ∙ more_zeros k x

at_least_short : (k n : ℕ) → n < 10 → at_least_digits (suc k) n ≡ replicate k 0x30 ++ (0x30 + n) ∷ []
at_least_short k n h = let e : suc k - 1 ≡ k = omega arith in rw (decimal_digit n h, e) refl

pub at_least_step : (k n : ℕ) → 10 ≤ n → n < 2 ^ 64 → at_least_digits (suc k) n ≡ at_least_digits k (n / 10) ++ digit n ∷ []
at_least_step k n h g =
    let e : suc k - length (decimal n) ≡ k - length (decimal (n / 10)) = omega (arith, ap length (decimal_step n h g), length-append (decimal (n / 10)) ((0x30 + n % 10) ∷ [])) in
    rw (e, decimal_step n h g) (sym (append_assoc (replicate (k - length (decimal (n / 10))) 0x30) (decimal (n / 10)) (digit n ∷ [])))

-- enough digits are the last ones
pub at_least_padded : (k n : ℕ) (after : List ℕ) → n < 10 ^ suc k → n < 2 ^ 64 → at_least_digits (suc k) n ++ after ≡ padded (suc k) n after
at_least_padded zero n after h g =
    let few : n < 10 = omega (arith, pow-suc 10 0) in
    ap (λ l. l ++ after) (at_least_short 0 n few) ∙ (let e : 0x30 + n ≡ digit n = omega arith in ap (λ d. d ∷ after) e)
at_least_padded (suc k) n after h g =
    ⊎_elim
    (λ few. let e : n / 10 ≡ 0 = omega arith in let d : 0x30 + n ≡ digit n = omega arith in
    ap (λ l. l ++ after) (at_least_short (suc k) n few) ∙ append_assoc (replicate (suc k) 0x30) ((0x30 + n) ∷ []) after
    ∙ ap (λ d. replicate (suc k) 0x30 ++ d ∷ after) d ∙ sym (padded_zero (suc k) (digit n ∷ after)) ∙ ap (λ m. padded (suc k) m (digit n ∷ after)) (sym e))
    (λ some. ap (λ l. l ++ after) (at_least_step (suc k) n some g) ∙ append_assoc (at_least_digits (suc k) (n / 10)) (digit n ∷ []) after
    ∙ at_least_padded k (n / 10) (digit n ∷ after) (let q : n < 10 ^ suc k * 10 = omega (arith, h, pow-suc 10 (suc k)) in omega arith) (omega arith))
    (cases_lt n 10)

pub two_written : (n : ℕ) → n < 100 → at_least_digits 2 n ≡ two_digits n
two_written n h = sym (append-nil (at_least_digits 2 n)) ∙ at_least_padded 1 n [] (omega arith) (omega arith)

pub four_written : (n : ℕ) → n < 10000 → at_least_digits 4 n ≡ four_digits n
four_written n h =
    let a : n / 10 / 10 ≡ n / 100 = omega arith in
    sym (append-nil (at_least_digits 4 n)) ∙ at_least_padded 3 n [] (omega arith) (omega arith) ∙ ap (λ m. digit (m / 10) ∷ digit m ∷ two_digits n) a

-- digits are those of the number that they spell
pub digits_back : (bs : List ℕ) (j m : ℕ) (after : List ℕ) → Each IsDigit bs → padded (length bs + j) (decimal_from m bs) after ≡ padded j m (bs ++ after)
digits_back [] j m after h = ap (λ k. padded k m after) (let e : 0 + j ≡ j = omega arith in e)
digits_back (b ∷ bs) j m after h =
    let e : suc (length bs) + j ≡ length bs + suc j = omega arith in
    let q : (m * 10 + (b - 0x30)) / 10 ≡ m = omega (arith, h.0.0, h.0.1) in
    let r : digit (m * 10 + (b - 0x30)) ≡ b = omega (arith, h.0.0, h.0.1) in
    ap (λ k. padded k (decimal_from (m * 10 + (b - 0x30)) bs) after) e ∙ digits_back bs (suc j) (m * 10 + (b - 0x30)) after h.1 ∙ rw (q, r) refl

pub decimal_from_append : (m : ℕ) (v w : List ℕ) → decimal_from m (v ++ w) ≡ decimal_from (decimal_from m v) w
decimal_from_append m [] w = refl
decimal_from_append m (b ∷ v) w = decimal_from_append (m * 10 + (b - 0x30)) v w

pub decimal_from_zeros : (m j : ℕ) → decimal_from m (replicate j 0x30) ≡ m * 10 ^ j
decimal_from_zeros m zero = omega arith
decimal_from_zeros m (suc j) =
    decimal_from_zeros (m * 10 + 0) j ∙ (rw (pow-suc 10 j) (let e : m * 10 + 0 ≡ m * 10 = omega arith in ap (λ x. x * 10 ^ j) e ∙ mul_assoc m 10 (10 ^ j) ∙ ap (λ x. m * x) (mul_comm 10 (10 ^ j))))

pub decimal_below : (m : ℕ) (bs : List ℕ) → Each IsDigit bs → decimal_from m bs < suc m * 10 ^ length bs
decimal_below m [] are = omega arith
decimal_below m (b ∷ bs) are =
    let i : decimal_from (m * 10 + (b - 0x30)) bs < suc (m * 10 + (b - 0x30)) * 10 ^ length bs = decimal_below (m * 10 + (b - 0x30)) bs are.1 in
    rw (pow-suc 10 (length bs)) (scaled m (b - 0x30) (10 ^ length bs) (decimal_from (m * 10 + (b - 0x30)) bs) (omega (arith, are.0.1)) i)
  where
    scaled : (m b p x : ℕ) → b < 10 → x < suc (m * 10 + b) * p → x < suc m * (p * 10)
    scaled m b p x h k =
        let f : suc (m * 10 + b) * p ≤ suc m * 10 * p = mul-le-mul_right p (omega arith) in let e : suc m * 10 * p ≡ suc m * (p * 10) = rw (mul_assoc (suc m) 10 p, mul_comm 10 p) refl in omega arith

pub zeros_are : (j : ℕ) → Each IsDigit (replicate j 0x30)
zeros_are zero = tt
zeros_are (suc j) = ((omega arith, omega arith), zeros_are j)

-- nine digits are those of the number that they spell
nine_back : (ds : List ℕ) → Each IsDigit ds → length ds ≡ 9 → at_least_digits 9 (decimal_from 0 ds) ≡ ds
nine_back ds are e =
    let below : decimal_from 0 ds < 10 ^ 9 = omega (arith, subst (λ k. decimal_from 0 ds < 1 * 10 ^ k) e (decimal_below 0 ds are)) in
    let nine : 9 ≡ length ds + 0 = omega (arith, e) in
    sym (append-nil _) ∙ at_least_padded 8 (decimal_from 0 ds) [] below (omega arith) ∙ ap (λ k. padded k (decimal_from 0 ds) []) nine ∙ digits_back ds 0 0 [] are ∙ append-nil ds

-- the nine digits of a fraction
pub nine_written : (ds : List ℕ) → Each IsDigit ds → length ds ≤ 9 → at_least_digits 9 (decimal_from 0 ds * 10 ^ (9 - length ds)) ≡ ds ++ replicate (9 - length ds) 0x30
nine_written ds are few =
    let size : length (ds ++ replicate (9 - length ds) 0x30) ≡ 9 = omega (arith, length-append ds (replicate (9 - length ds) 0x30), length-replicate {A = ℕ} (9 - length ds) 0x30) in
    let value : decimal_from 0 (ds ++ replicate (9 - length ds) 0x30) ≡ decimal_from 0 ds * 10 ^ (9 - length ds) = decimal_from_append 0 ds (replicate (9 - length ds) 0x30)
    ∙ decimal_from_zeros (decimal_from 0 ds) (9 - length ds) in
    ap (λ n. at_least_digits 9 n) (sym value) ∙ nine_back (ds ++ replicate (9 - length ds) 0x30) (each_append IsDigit ds (replicate (9 - length ds) 0x30) are (zeros_are (9 - length ds))) size

is_none : (w : List ℕ) → (length w == 0) ≡ true → w ≡ []
is_none [] h = refl
is_none (b ∷ w) h = absurd (let k : length (b ∷ w) ≡ 0 = (Decides-eqb (length (b ∷ w)) 0).0 h in omega arith)

-- the first of digits goes, where it is a 0 and none is left behind it, or stays
goes_or_stays : (d : ℕ) (ds : List ℕ) → ((d ≡ 0x30) × (without_last_zeros ds ≡ []) × (without_last_zeros (d ∷ ds) ≡ []))
    ⊎ ((d ≡ 0x30 → without_last_zeros ds ≢ []) × (without_last_zeros (d ∷ ds) ≡ d ∷ without_last_zeros ds))
goes_or_stays d ds = at (d == 0x30) refl (length (without_last_zeros ds) == 0) refl
  where
    at : (b : Bool) → (d == 0x30) ≡ b → (c : Bool) → (length (without_last_zeros ds) == 0) ≡ c → ((d ≡ 0x30) × (without_last_zeros ds ≡ []) × (without_last_zeros (d ∷ ds) ≡ []))
        ⊎ ((d ≡ 0x30 → without_last_zeros ds ≢ []) × (without_last_zeros (d ∷ ds) ≡ d ∷ without_last_zeros ds))
    at true p true q = inl ((Decides-eqb d 0x30).0 p, is_none _ q, rw (p, q) refl)
    at false p c q = inr ((λ h. absurd (never (sym p ∙ (Decides-eqb d 0x30).1 h))), rw p refl)
    at true p false q = inr ((λ h g. never (sym q ∙ ap (λ w. length w == 0) g)), rw (p, q) refl)

-- what is left ends in no 0
pub left_ends : (ds f : List ℕ) → without_last_zeros ds ≢ f ++ 0x30 ∷ []
left_ends [] [] e = cc
left_ends [] (a ∷ f) e = cc
left_ends (d ∷ ds) [] e = elim (goes_or_stays d ds) [
  | inl h ↦ (let k : ◌≡◌ {A = List ℕ} [] (0x30 ∷ []) = sym h.2 ∙ e in cc)
  | inr h ↦ (let k : d ∷ without_last_zeros ds ≡ 0x30 ∷ [] = sym h.1 ∙ e in let a : d ≡ 0x30 = cc in let b : without_last_zeros ds ≡ [] = cc in h.0 a b)
]
left_ends (d ∷ ds) (a ∷ f) e = elim (goes_or_stays d ds) [
  | inl h ↦ (let k : [] ≡ a ∷ f ++ 0x30 ∷ [] = sym h.2 ∙ e in cc)
  | inr h ↦ (let k : d ∷ without_last_zeros ds ≡ a ∷ f ++ 0x30 ∷ [] = sym h.1 ∙ e in left_ends ds f (cc))
]

-- digits without a 0 at the end stay
pub stays : (ds : List ℕ) → ((f : List ℕ) → ds ≢ f ++ 0x30 ∷ []) → without_last_zeros ds ≡ ds
stays [] n = refl
stays (d ∷ ds) n =
    let rest : without_last_zeros ds ≡ ds = stays ds (λ f e. n (d ∷ f) (ap (λ l. d ∷ l) e)) in
    elim (goes_or_stays d ds) [
      | inl h ↦ absurd (n [] (let g : ds ≡ [] = sym rest ∙ h.1 in let k : d ≡ 0x30 = h.0 in cc))
      | inr h ↦ h.1 ∙ ap (λ l. d ∷ l) rest
    ]

-- zeros at the end go
pub zeros_go : (ds : List ℕ) (j : ℕ) → without_last_zeros (ds ++ replicate j 0x30) ≡ without_last_zeros ds
zeros_go [] zero = refl
zeros_go [] (suc j) = rw (zeros_go [] j) refl
zeros_go (d ∷ ds) j = rw (zeros_go ds j) refl

-- where none are left, the number is 0
pub none_left_zero : (ds : List ℕ) → without_last_zeros ds ≡ [] → decimal_from 0 ds ≡ 0
none_left_zero [] e = refl
none_left_zero (d ∷ ds) e = elim (goes_or_stays d ds) [
  | inl h ↦ rw h.0 (none_left_zero ds h.1)
  | inr h ↦ absurd (let k : [] ≡ d ∷ without_last_zeros ds = sym e ∙ h.1 in cc)
]

pub left_digits : (ds : List ℕ) → Each IsDigit ds → Each IsDigit (without_last_zeros ds)
left_digits [] h = tt
left_digits (d ∷ ds) h = elim (goes_or_stays d ds) [
  | inl k ↦ rw k.2 tt
  | inr k ↦ rw k.1 (h.0, left_digits ds h.1)
]
