-- The fewest octets of a number, and the shortest octets of a length (X.690 8.1.3 and 10.1).
use Rattle.std.proofs.Common.{◌≡◌, ◌≢◌, ℕ, zero, suc, ◌+◌, ◌*◌, ◌/◌, ◌%◌, ◌^◌, ◌<◌, ◌≤◌, List, [], ◌∷◌, ◌++◌, length}
use Rattle.std.proofs.Common.{get_or, refl, sym, ap, ◌∙◌, subst, arith, append_assoc, inl, inr, ⊎_elim, append-nil}
use Rattle.std.proofs.lemmas.Bool.{cases_lt}
use Rattle.std.proofs.lemmas.Bool.Decides.{nat_tests}
use Rattle.der_base.specs.Octets.{number_from, number, octets, SpellsLength, shortest_length}
use Rattle.der_base.proofs.Octets.Identifiers.{number_octets}
use Rattle.der_base.proofs.Octets.Numbers.{octets_more, octets_count, octets_few}

-- the fewest octets of a number

octets_one : (n : ℕ) → 0 < n → n < 256 → octets n ≡ n ∷ []
octets_one n h l =
    let d : n / 256 ≡ 0 = omega arith in
    let m : n % 256 ≡ n = omega arith in
    octets_more n h ∙ ap (λ k. octets k ++ (n % 256) ∷ []) d ∙ ap (λ k. k ∷ []) m

-- the shortest octets of a length

pub shortest_short : (n : ℕ) → n < 128 → shortest_length n ≡ n ∷ []
unfolding shortest_length
shortest_short n h = grind (arith, nat_tests)

pub shortest_long : (n : ℕ) → 128 ≤ n → shortest_length n ≡ (128 + length (octets n)) ∷ octets n
unfolding shortest_length
shortest_long n h = grind (arith, nat_tests)

-- they are octets of that length
pub shortest_spells : (n : ℕ) → n < 2 ^ 64 → SpellsLength (shortest_length n) n
shortest_spells n h =
    ⊎_elim
    (λ a. subst (λ w. SpellsLength w n) (sym (shortest_short n a)) (h, inl (a, refl, refl)))
    (λ a.
    let l = octets_few 8 n h in
    let c = octets_count n (omega arith) in
    subst (λ w. SpellsLength w n) (sym (shortest_long n a)) (h, inr (omega arith, refl, omega arith, sym (number_octets n))))
    (cases_lt n 128)

-- bytes, and the numbers that they spell

-- each is below 256
abbrev pub IsBytes : List ℕ → Type 0
IsBytes [] = Unit {0}
IsBytes (b ∷ bs) = (b < 256) × IsBytes bs

pub bytes_from : (bs : List ℕ) → ((k : ℕ) → get_or bs k 0 < 256) → IsBytes bs
bytes_from [] h = tt
bytes_from (b ∷ bs) h = (h 0, bytes_from bs (λ k. h (suc k)))

pub bytes_front : (xs ys : List ℕ) → IsBytes (xs ++ ys) → IsBytes xs
bytes_front [] ys h = tt
bytes_front (x ∷ xs) ys h = (h.0, bytes_front xs ys h.1)

-- more octets spell no smaller number
pub number_grows : (n : ℕ) (bs : List ℕ) → n ≤ number_from n bs
number_grows n [] = omega arith
number_grows n (b ∷ bs) = omega (arith, number_grows (n * 256 + b) bs)

octets_next : (n b : ℕ) → 0 < n → b < 256 → octets (n * 256 + b) ≡ octets n ++ b ∷ []
octets_next n b h l =
    let d : (n * 256 + b) / 256 ≡ n = omega arith in
    let m : (n * 256 + b) % 256 ≡ b = omega arith in
    octets_more (n * 256 + b) (omega arith) ∙ ap (λ k. octets k ++ ((n * 256 + b) % 256) ∷ []) d ∙ ap (λ k. octets n ++ k ∷ []) m

octets_number_from : (n : ℕ) (bs : List ℕ) → 0 < n → IsBytes bs → octets (number_from n bs) ≡ octets n ++ bs
octets_number_from n [] h k = sym (append-nil (octets n))
octets_number_from n (b ∷ bs) h k =
    octets_number_from (n * 256 + b) bs (omega arith) k.1 ∙ ap (λ l. l ++ bs) (octets_next n b h k.0) ∙ append_assoc (octets n) (b ∷ []) bs

-- octets that begin with no 0 are the fewest
pub octets_number : (b : ℕ) (bs : List ℕ) → b ≢ 0 → IsBytes (b ∷ bs) → octets (number (b ∷ bs)) ≡ b ∷ bs
octets_number b bs h k =
    let e : 0 * 256 + b ≡ b = omega arith in
    let p : 0 < b = omega arith in
    ap (λ m. octets (number_from m bs)) e ∙ octets_number_from b bs p k.1 ∙ ap (λ l. l ++ bs) (octets_one b p k.0)

head_front : (xs ys : List ℕ) → 0 < length xs → get_or (xs ++ ys) 0 0 ≡ get_or xs 0 0
head_front [] ys h = absurd (omega arith)
head_front (x ∷ xs) ys h = refl

octets_head_to : (m n : ℕ) → n ≤ m → 0 < n → get_or (octets n) 0 0 ≢ 0
octets_head_to zero n h p = absurd (omega arith)
octets_head_to (suc m) n h p =
    ⊎_elim
    (λ a. let e = ap (λ l. get_or l 0 0) (octets_one n p a) in λ z. absurd (omega (arith, e, z, p)))
    (λ a. let e = ap (λ l. get_or l 0 0) (octets_more n p) ∙ head_front (octets (n / 256)) ((n % 256) ∷ []) (omega (arith, octets_count (n / 256) (omega arith))) in
    λ z. octets_head_to m (n / 256) (omega arith) (omega arith) (sym e ∙ z))
    (cases_lt n 256)

-- the fewest octets begin with no 0
pub octets_head : (n : ℕ) → 0 < n → get_or (octets n) 0 0 ≢ 0
octets_head n p = octets_head_to n n (omega arith) p
