-- Numbers of any size by their octets.
use Rattle.std.proofs.Common.{◌≡◌, ◌≢◌, ℕ, zero, suc, ◌+◌, ◌*◌, ◌/◌, ◌%◌, ◌<◌, ◌≤◌, pos, ap, ◌∙◌, nat_lt, true, false, List, [], ◌∷◌, length, get_or, drop, refl, sym, arith}
use Rattle.std.proofs.lemmas.Bool.Decides.{nat_tests}
use Rattle.der_base.specs.Leaf.{IsMinimalInteger}
use Rattle.der_base.specs.Octets.{needs_zero, number, octets, shortest_integer}
use Rattle.der_base.proofs.AllByRecursion.{Each}
use Rattle.der_base.proofs.Octets.MinimalIntegers.{low_value}
use Rattle.der_base.proofs.Octets.Shortest.{IsOctet, octets_of_number, shortest_of_value}

-- octets with a 0 in front, if they need one
pub with_zero : (n : ℕ) (w : List ℕ) → w ≡ octets n → needs_zero w ≡ true → 0 ∷ w ≡ shortest_integer n
unfolding shortest_integer
with_zero n w e h = rw (← e) (rw h refl)

pub without_zero : (n : ℕ) (w : List ℕ) → w ≡ octets n → needs_zero w ≡ false → w ≡ shortest_integer n
unfolding shortest_integer
without_zero n w e h = rw (← e) (rw h refl)

-- a 0 in front doesn't count
pub zero_goes : (w : List ℕ) → 1 ≤ length w → get_or w 0 0 ≡ 0 → number (drop 1 w) ≡ number w
zero_goes [] some e = absurd (omega arith)
zero_goes (b ∷ w) some e = let f : b ≡ 0 = e in rw f refl

pub more_octets : (w : List ℕ) → ((k : ℕ) → get_or w k 0 < 256) → (k : ℕ) → get_or (drop 1 w) k 0 < 256
more_octets [] are k = are k
more_octets (b ∷ w) are k = are (suc k)

each_octet : (w : List ℕ) → ((k : ℕ) → get_or w k 0 < 256) → Each IsOctet w
each_octet [] are = tt
each_octet (b ∷ w) are = (are 0, each_octet w (λ k. are (suc k)))

-- octets with no 0 in front are the fewest
pub fewest : (w : List ℕ) → ((k : ℕ) → get_or w k 0 < 256) → 1 ≤ length w → get_or w 0 0 ≢ 0 → w ≡ octets (number w)
fewest [] are some other = absurd (omega arith)
fewest (b ∷ v) are some other =
    let least : b ≢ 0 = other in
    sym (octets_of_number b v (omega (arith, least)) (are 0) (each_octet v (λ k. are (suc k))))

pub none_left : (w : List ℕ) → length w < 1 → w ≡ octets (number w)
none_left [] few = refl
none_left (b ∷ w) few = absurd (omega arith)

-- a number of one octet
pub small_integer : (n : ℕ) → n < 128 → shortest_integer n ≡ n ∷ []
unfolding shortest_integer
small_integer zero few = refl
small_integer (suc n) few =
    let k : 0 * 256 + suc n ≡ suc n = omega arith in
    let own : octets (suc n) ≡ suc n ∷ [] = rw k at (octets_of_number (suc n) [] (omega arith) (omega arith) tt) in
    let high : nat_lt 127 (suc n) ≡ false = grind (arith, nat_tests) in
    rw (own, high) refl

-- and of two
pub two_octets : (n : ℕ) → 128 ≤ n → n < 32768 → n / 256 ∷ n % 256 ∷ [] ≡ shortest_integer n
two_octets n least few =
    let value : number (n / 256 ∷ n % 256 ∷ []) ≡ n = omega arith in
    let minimal : IsMinimalInteger (n / 256 ∷ n % 256 ∷ []) = ((λ e. omega (arith, e, least)), (λ e. omega (arith, e, few))) in
    shortest_of_value (n / 256 ∷ n % 256 ∷ []) n (omega arith, (omega arith, tt)) minimal (low_value (n / 256) (n % 256 ∷ []) (omega (arith, few)) ∙ ap pos value)
