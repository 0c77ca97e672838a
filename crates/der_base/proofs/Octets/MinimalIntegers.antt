-- An INTEGER whose first nine bits are not all alike is the one with the fewest octets of its value, and the other way round.
use Rattle.std.proofs.Common.{◌≡◌, ◌≢◌, ℕ, suc, ◌⊎◌, true, false, List, [], ◌∷◌, ◌+◌, ◌-◌, ◌*◌, ◌^◌, ◌<◌, ◌≤◌, refl, sym, ap, subst, ◌∙◌, arith, inl, inr, pos, negsuc, length, ⊎_elim}
use Rattle.std.specs.Prelude.{◌-ℤ◌, nat_lt}
use Rattle.std.proofs.lemmas.Int.{ints}
use Rattle.std.proofs.Math.Nat.{pow-suc, mul_assoc, mul_comm}
use Rattle.std.proofs.lemmas.Bool.{cases_lt}
use Rattle.std.proofs.lemmas.Bool.Decides.{nat_tests}
use Rattle.der_base.specs.Octets.{number, number_from, integer_value, shortest_integer}
use Rattle.der_base.specs.Leaf.{IsMinimalInteger}
use Rattle.der_base.proofs.AllByRecursion.{Each}
use Rattle.der_base.proofs.Octets.Shortest.{IsOctet, shortest_of_value, shortest_integer_fewest, shortest_integer_one}

-- each bit turned
abbrev pub turned : List ℕ → List ℕ
turned [] = []
turned (b ∷ w) = (255 - b) ∷ turned w

turned_are : (w : List ℕ) → Each IsOctet (turned w)
turned_are [] = tt
turned_are (b ∷ w) = (omega arith, turned_are w)

turned_length : (w : List ℕ) → length (turned w) ≡ length w
turned_length [] = refl
turned_length (b ∷ w) = ap suc (turned_length w)

-- a number and the one of the turned bits fill up a power of 256
turned_number : (m n : ℕ) (w : List ℕ) → Each IsOctet w → number_from m w + number_from n (turned w) + 1 ≡ (m + n + 1) * 256 ^ length w
turned_number m n [] h = omega arith
turned_number m n (b ∷ w) h =
    let i : number_from (m * 256 + b) w + number_from (n * 256 + (255 - b)) (turned w) + 1 ≡ (m * 256 + b + (n * 256 + (255 - b)) + 1) * 256 ^ length w =
    turned_number (m * 256 + b) (n * 256 + (255 - b)) w h.1 in
    let e : m * 256 + b + (n * 256 + (255 - b)) + 1 ≡ (m + n + 1) * 256 = omega (arith, h.0) in
    i ∙ ap (λ k. k * 256 ^ length w) e ∙ mul_assoc (m + n + 1) 256 (256 ^ length w) ∙ ap (λ k. (m + n + 1) * k) (mul_comm 256 (256 ^ length w) ∙ sym (pow-suc 256 (length w)))

pub high_value : (b : ℕ) (w : List ℕ) → 128 ≤ b → integer_value (b ∷ w) ≡ pos (number (b ∷ w)) -ℤ pos (256 ^ suc (length w))
high_value b w h = let f : nat_lt b 128 ≡ false = grind (arith, nat_tests) in rw f refl

pub low_value : (b : ℕ) (w : List ℕ) → b < 128 → integer_value (b ∷ w) ≡ pos (number (b ∷ w))
low_value b w h = let f : nat_lt b 128 ≡ true = grind (arith, nat_tests) in rw f refl

minus : (x c p : ℕ) → x + c + 1 ≡ p → pos x -ℤ pos p ≡ negsuc c
minus x c p e = omega (arith, ints)

-- where the first bit is set, the value is below 0 by the turned bits
pub negative_value : (b : ℕ) (w : List ℕ) → Each IsOctet (b ∷ w) → 128 ≤ b → integer_value (b ∷ w) ≡ negsuc (number (turned (b ∷ w)))
negative_value b w are h =
    let e : number (b ∷ w) + number (turned (b ∷ w)) + 1 ≡ 1 * 256 ^ suc (length w) = turned_number 0 0 (b ∷ w) are in
    high_value b w h ∙ minus (number (b ∷ w)) (number (turned (b ∷ w))) (256 ^ suc (length w)) (omega (arith, e))

-- whether the value of octets is below 0
sign : (w : List ℕ) → Each IsOctet w → w ≢ [] → ((n : ℕ) × (integer_value w ≡ pos n)) ⊎ ((n : ℕ) × (integer_value w ≡ negsuc n) × (integer_value (turned w) ≡ pos n) × (turned w ≢ []))
sign [] are some = absurd (some refl)
sign (b ∷ w) are some = ⊎_elim
    (λ a. inl (number (b ∷ w), low_value b w a))
    (λ a. inr (number (turned (b ∷ w)), negative_value b w are a, low_value (255 - b) (turned w) (omega arith), (λ e. cc)))
    (cases_lt b 128)

turned_minimal : (w : List ℕ) → Each IsOctet w → IsMinimalInteger w → IsMinimalInteger (turned w)
turned_minimal [] are m = m
turned_minimal (a ∷ []) are m = tt
turned_minimal (a ∷ b ∷ w) are m = ((λ e. let k : b < 128 = m.1 (omega (arith, are.0)) in omega arith), (λ e. let k : 128 ≤ b = m.0 (omega arith) in omega arith))

pub some_of_minimal : (w : List ℕ) → IsMinimalInteger w → w ≢ []
some_of_minimal w m e = subst IsMinimalInteger e m

turned_back : (v w : List ℕ) → Each IsOctet v → Each IsOctet w → turned v ≡ turned w → v ≡ w
turned_back [] [] h g e = refl
turned_back [] (c ∷ w) h g e = absurd (cc)
turned_back (b ∷ v) [] h g e = absurd (cc)
turned_back (b ∷ v) (c ∷ w) h g e = let k : 255 - b ≡ 255 - c = cc in let f : b ≡ c = omega (arith, h.0, g.0) in let r : v ≡ w = turned_back v w h.1 g.1 (cc) in cc

-- no octets with the value of a minimal INTEGER are fewer
pub minimal_fewest : (w v : List ℕ) → Each IsOctet w → Each IsOctet v → IsMinimalInteger w → v ≢ [] → integer_value v ≡ integer_value w → length w ≤ length v
minimal_fewest w v are also m some e = elim (sign w are (some_of_minimal w m)) [
  | inl (n, q) ↦ omega (arith, ap length (shortest_of_value w n are m q), shortest_integer_fewest v n also some (e ∙ q))
  | inr (n, q, k, _) ↦ elim (sign v also some) [
    | inl (j, r) ↦ absurd (let z : pos j ≡ negsuc n = sym r ∙ e ∙ q in cc)
    | inr (j, r, l, s) ↦ (let same : n ≡ j = (let z : negsuc n ≡ negsuc j = sym q ∙ sym e ∙ r in cc) in
        omega (
          arith,
          turned_length w,
          turned_length v,
          ap length (shortest_of_value (turned w) n (turned_are w) (turned_minimal w are m) k),
          shortest_integer_fewest (turned v) n (turned_are v) s (l ∙ ap pos (sym same)),
        ))
  ]
]

-- and none as few are others
pub minimal_one : (w v : List ℕ) → Each IsOctet w → Each IsOctet v → IsMinimalInteger w → integer_value v ≡ integer_value w → length v ≡ length w → v ≡ w
minimal_one w v are also m e len = elim (sign w are (some_of_minimal w m)) [
  | inl (n, q) ↦ (let s : w ≡ shortest_integer n = shortest_of_value w n are m q in shortest_integer_one v n also (e ∙ q) (len ∙ ap length s) ∙ sym s)
  | inr (n, q, k, _) ↦ elim (sign v also (λ z. some_of_minimal w m (is_none w (omega (arith, len, ap length z))))) [
    | inl (j, r) ↦ absurd (let z : pos j ≡ negsuc n = sym r ∙ e ∙ q in cc)
    | inr (j, r, l, s) ↦ (let same : n ≡ j = (let z : negsuc n ≡ negsuc j = sym q ∙ sym e ∙ r in cc) in
        let t : turned w ≡ shortest_integer n = shortest_of_value (turned w) n (turned_are w) (turned_minimal w are m) k in
        turned_back v w also are (shortest_integer_one (turned v) n (turned_are v) (l ∙ ap pos (sym same)) (omega (arith, turned_length v, turned_length w, len, ap length t)) ∙ sym t))
  ]
]
  where
    is_none : (w : List ℕ) → length w ≡ 0 → w ≡ []
    is_none [] h = refl
    is_none (b ∷ w) h = absurd (omega arith)

-- a first octet that tells no more than the next bit
value_without_zero : (b : ℕ) (w : List ℕ) → b < 128 → integer_value (b ∷ w) ≡ integer_value (0 ∷ b ∷ w)
value_without_zero b w h = low_value b w h

value_without_ff : (b : ℕ) (w : List ℕ) → Each IsOctet (b ∷ w) → 128 ≤ b → integer_value (b ∷ w) ≡ integer_value (255 ∷ b ∷ w)
value_without_ff b w are h = negative_value b w are h ∙ sym (negative_value 255 (b ∷ w) (omega arith, are) (omega arith))

-- octets than which none with their value are fewer
pub fewest_minimal : (w : List ℕ) → Each IsOctet w → w ≢ [] → ((v : List ℕ) → Each IsOctet v → v ≢ [] → integer_value v ≡ integer_value w → length w ≤ length v) → IsMinimalInteger w
fewest_minimal [] are some n = absurd (some refl)
fewest_minimal (a ∷ []) are some n = tt
fewest_minimal (a ∷ b ∷ w) are some n = (
  (λ e. ⊎_elim (λ l. absurd (omega (arith, n (b ∷ w) are.1 (λ z. cc) (value_without_zero b w l ∙ ap (λ x. integer_value (x ∷ b ∷ w)) (sym e))))) (λ l. l) (cases_lt b 128)),
  (λ e. ⊎_elim (λ l. l) (λ l. absurd (omega (arith, n (b ∷ w) are.1 (λ z. cc) (value_without_ff b w are.1 l ∙ ap (λ x. integer_value (x ∷ b ∷ w)) (sym e))))) (cases_lt b 128)),
)
