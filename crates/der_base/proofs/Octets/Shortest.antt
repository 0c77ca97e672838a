-- The fewest octets of a number, of a length and of an integer, and the fewest groups of a tag number.
use Rattle.std.proofs.Common.{◌≡◌, ◌≢◌, ℕ, zero, suc, Bool, true, false, List, [], ◌∷◌, ◌+◌, ◌*◌, ◌/◌, ◌^◌, ◌%◌, ◌<◌}
use Rattle.std.proofs.Common.{◌≤◌, refl, sym, ap, subst, ◌∙◌, arith, inl, inr, pos, if◌then◌else◌, length, ⊎_elim}
use Rattle.std.specs.Prelude.{◌-ℤ◌, nat_lt}
use Rattle.std.proofs.lemmas.Int.{ints}
use Rattle.std.proofs.Math.Nat.{pow-suc, mul-le-mul_right, mul_assoc, mul_comm}
use Rattle.std.proofs.lemmas.Bool.{cases_lt}
use Rattle.std.proofs.lemmas.Bool.Decides.{nat_tests}
use Rattle.der_base.specs.Octets.{number, number_from, octets, octets_before, groups, groups_before, groups_value}
use Rattle.der_base.specs.Octets.{integer_value, shortest_integer, shortest_length, needs_zero, SpellsAnyLength}
use Rattle.der_base.specs.Laws.{AreGroups}
use Rattle.der_base.specs.Leaf.{IsMinimalInteger}
use Rattle.der_base.proofs.AllByRecursion.{Each}
use Rattle.der_base.proofs.Octets.Identifiers.{number_octets}

-- each is an octet
abbrev pub IsOctet : ℕ → Type 0
IsOctet b = b < 256

pub none_left : (most : ℕ) (after : List ℕ) → octets_before most 0 after ≡ after
none_left zero after = refl
none_left (suc most) after = refl

abbrev Leads : List ℕ → Type 0
Leads s = (b : ℕ) × (v : List ℕ) × (s ≡ b ∷ v) × (0 < b) × (b < 256)

-- the octets of a number begin with none that is 0
pub leads : (most n : ℕ) (after : List ℕ) → n ≤ most → 0 < n → Leads (octets_before most n after)
leads zero n after h k = absurd (omega arith)
leads (suc most) zero after h k = absurd (omega arith)
leads (suc most) (suc n) after h k = by_rest (suc n / 256) refl (λ r. leads most (suc n / 256) ((suc n % 256) ∷ after) (omega arith) r)
  where
    by_rest : (q : ℕ) → suc n / 256 ≡ q → (0 < suc n / 256 → Leads (octets_before most (suc n / 256) ((suc n % 256) ∷ after))) → Leads (octets_before most (suc n / 256) ((suc n % 256) ∷ after))
    by_rest zero e more = (suc n % 256, after, rw e (none_left most ((suc n % 256) ∷ after)), omega arith, omega arith)
    by_rest (suc q) e more = more (omega arith)

with_bit : (c : Bool) (b : ℕ) (v : List ℕ) → (c ≡ true → 128 ≤ b) → (c ≡ false → b < 128) → 0 < b → IsMinimalInteger (if c then 0 ∷ b ∷ v else b ∷ v)
with_bit true b v high low some = ((λ q. high refl), (λ q. absurd (omega arith)))
with_bit false b [] high low some = tt
with_bit false b (x ∷ v) high low some = ((λ q. absurd (omega arith)), (λ q. let f : b < 128 = low refl in absurd (omega arith)))

of_lead : (s : List ℕ) (b : ℕ) (v : List ℕ) → s ≡ b ∷ v → 0 < b → IsMinimalInteger (if needs_zero s then 0 ∷ s else s)
of_lead s b v e some = rw e (with_bit (nat_lt 127 b) b v (λ h. grind (arith, nat_tests)) (λ h. grind (arith, nat_tests)) some)

-- the shortest two's complement is minimal
pub minimal_shortest : (n : ℕ) → IsMinimalInteger (shortest_integer n)
unfolding shortest_integer
minimal_shortest zero = tt
minimal_shortest (suc n) = let l : Leads (octets (suc n)) = leads (suc n) (suc n) [] (omega arith) (omega arith) in of_lead (octets (suc n)) l.0 l.1 l.2 l.3

-- any bound serves that is large enough
pub any_bound : (most k n : ℕ) (after : List ℕ) → n ≤ most → n ≤ k → octets_before most n after ≡ octets_before k n after
any_bound most k zero after h g = none_left most after ∙ sym (none_left k after)
any_bound zero k (suc n) after h g = absurd (omega arith)
any_bound (suc most) zero (suc n) after h g = absurd (omega arith)
any_bound (suc most) (suc k) (suc n) after h g = any_bound most k (suc n / 256) ((suc n % 256) ∷ after) (omega arith) (omega arith)

-- one octet more
pub one_more : (k m b : ℕ) (after : List ℕ) → b < 256 → 0 < m * 256 + b → m * 256 + b ≤ k → octets_before k (m * 256 + b) after ≡ octets_before m m (b ∷ after)
one_more k m b after small some h = at_suc k (m * 256 + b) refl h
  where
    at_suc : (k n : ℕ) → n ≡ m * 256 + b → n ≤ k → octets_before k n after ≡ octets_before m m (b ∷ after)
    at_suc zero n e g = absurd (omega arith)
    at_suc (suc k) zero e g = absurd (omega arith)
    at_suc (suc k) (suc n) e g = let q : suc n / 256 ≡ m = omega arith in let r : suc n % 256 ≡ b = omega arith in rw (q, r) (any_bound k m m (b ∷ after) (omega arith) (omega arith))

pub octets_back : (m most : ℕ) (bs : List ℕ) → Each IsOctet bs → 0 < m → number_from m bs ≤ most → octets_before most (number_from m bs) [] ≡ octets_before m m bs
octets_back m most [] small some h = any_bound most m m [] h (omega arith)
octets_back m most (b ∷ bs) small some h = octets_back (m * 256 + b) most bs small.1 (omega arith) h ∙ one_more (m * 256 + b) m b bs small.0 (omega arith) (omega arith)

-- octets that begin with none that is 0 are the fewest of their number
pub octets_of_number : (b : ℕ) (bs : List ℕ) → 0 < b → b < 256 → Each IsOctet bs → octets (number (b ∷ bs)) ≡ b ∷ bs
octets_of_number b bs some small are = octets_back (0 * 256 + b) _ bs are (omega arith) (omega arith) ∙ one_more (0 * 256 + b) 0 b bs small (omega arith) (omega arith)

pub number_below : (m : ℕ) (bs : List ℕ) → Each IsOctet bs → number_from m bs < suc m * 256 ^ length bs
number_below m [] are = omega arith
number_below m (b ∷ bs) are =
    let i : number_from (m * 256 + b) bs < suc (m * 256 + b) * 256 ^ length bs = number_below (m * 256 + b) bs are.1 in
    rw (pow-suc 256 (length bs)) (scaled m b (256 ^ length bs) (number_from (m * 256 + b) bs) are.0 i)
  where
    scaled : (m b p x : ℕ) → b < 256 → x < suc (m * 256 + b) * p → x < suc m * (p * 256)
    scaled m b p x h k =
        let f : suc (m * 256 + b) * p ≤ suc m * 256 * p = mul-le-mul_right p (omega arith) in let e : suc m * 256 * p ≡ suc m * (p * 256) = rw (mul_assoc (suc m) 256 p, mul_comm 256 p) refl in
        omega arith

too_low : (x y n : ℕ) → x < y → pos x -ℤ pos y ≡ pos n → ⊥
too_low x y n l k = omega (arith, ints)

pub not_negative : (b : ℕ) (bs : List ℕ) (n : ℕ) → b < 256 → Each IsOctet bs → integer_value (b ∷ bs) ≡ pos n → (b < 128) × (number (b ∷ bs) ≡ n)
not_negative b bs n small are e = by_sign (nat_lt b 128) refl e
  where
    below : number (b ∷ bs) < 256 ^ suc (length bs)
    below = omega (arith, number_below 0 (b ∷ bs) (small, are))

    by_sign : (c : Bool) → nat_lt b 128 ≡ c → (if c then pos (number (b ∷ bs)) else pos (number (b ∷ bs)) -ℤ pos (256 ^ suc (length bs))) ≡ pos n → (b < 128) × (number (b ∷ bs) ≡ n)
    by_sign true h k = (grind (arith, nat_tests), cc)
    by_sign false h k = absurd (let l : number (b ∷ bs) < 256 ^ suc (length bs) = below in too_low _ _ n l k)

-- a minimal INTEGER that is not negative is what is written for its value
pub shortest_of_value : (w : List ℕ) (n : ℕ) → Each IsOctet w → IsMinimalInteger w → integer_value w ≡ pos n → w ≡ shortest_integer n
unfolding shortest_integer
shortest_of_value [] n are m e = absurd m
shortest_of_value (zero ∷ []) n are m e = let k = not_negative 0 [] n (omega arith) tt e in rw (← k.1) refl
shortest_of_value (zero ∷ c ∷ v) n are m e =
    let k = not_negative 0 (c ∷ v) n (omega arith) are.1 e in
    let high : 128 ≤ c = m.0 refl in
    let back : octets n ≡ c ∷ v = rw (← k.1) (octets_of_number c v (omega arith) are.1.0 are.1.1) in
    let test : nat_lt 127 c ≡ true = grind (arith, nat_tests) in
    rw (back, test) refl
shortest_of_value (suc b ∷ bs) n are m e =
    let k = not_negative (suc b) bs n are.0 are.1 e in
    let back : octets n ≡ suc b ∷ bs = rw (← k.1) (octets_of_number (suc b) bs (omega arith) are.0 are.1) in
    let low : suc b < 128 = k.0 in
    let test : nat_lt 127 (suc b) ≡ false = grind (arith, nat_tests) in
    rw (back, test) refl

-- numbers of as many octets are those of one list
number_from_same : (m n : ℕ) (v w : List ℕ) → length v ≡ length w → Each IsOctet v → Each IsOctet w → number_from m v ≡ number_from n w → (m ≡ n) × (v ≡ w)
number_from_same m n [] [] l h g e = (e, refl)
number_from_same m n [] (c ∷ w) l h g e = absurd (omega arith)
number_from_same m n (b ∷ v) [] l h g e = absurd (omega arith)
number_from_same m n (b ∷ v) (c ∷ w) l h g e =
    let q = number_from_same (m * 256 + b) (n * 256 + c) v w (omega arith) h.1 g.1 e in
    let k : m * 256 + b ≡ n * 256 + c = q.0 in
    let f : b ≡ c = omega (arith, h.0, g.0) in
    let r : v ≡ w = q.1 in
    (omega (arith, h.0, g.0), cc)

pub number_same : (v w : List ℕ) → length v ≡ length w → Each IsOctet v → Each IsOctet w → number v ≡ number w → v ≡ w
number_same v w l h g e = (number_from_same 0 0 v w l h g e).1

octets_before_few : (k most n : ℕ) (after : List ℕ) → n ≤ most → n < 256 ^ k → length (octets_before most n after) ≤ k + length after
octets_before_few k most zero after h g = omega (arith, ap length (none_left most after))
octets_before_few zero most (suc n) after h g = absurd (omega arith)
octets_before_few (suc k) zero (suc n) after h g = absurd (omega arith)
octets_before_few (suc k) (suc most) (suc n) after h g =
    let q : suc n / 256 < 256 ^ k = omega (arith, pow-suc 256 k) in
    omega (arith, octets_before_few k most (suc n / 256) ((suc n % 256) ∷ after) (omega arith) q)

-- a number below 256 ^ k has at most k octets
pub octets_few : (k n : ℕ) → n < 256 ^ k → length (octets n) ≤ k
octets_few k n h = omega (arith, octets_before_few k n n [] (omega arith) h)

octets_before_are : (most n : ℕ) (after : List ℕ) → Each IsOctet after → Each IsOctet (octets_before most n after)
octets_before_are zero n after h = h
octets_before_are (suc most) zero after h = h
octets_before_are (suc most) (suc n) after h = octets_before_are most (suc n / 256) ((suc n % 256) ∷ after) (omega arith, h)

pub octets_are : (n : ℕ) → Each IsOctet (octets n)
octets_are n = octets_before_are n n [] tt

-- no octets of a number are fewer
pub octets_fewest : (w : List ℕ) → Each IsOctet w → length (octets (number w)) ≤ length w
octets_fewest w h = octets_few (length w) (number w) (omega (arith, number_below 0 w h))

pub length_short : (n : ℕ) → n < 128 → shortest_length n ≡ n ∷ []
unfolding shortest_length
length_short n h = grind (arith, nat_tests)

pub length_long : (n : ℕ) → 128 ≤ n → shortest_length n ≡ (128 + length (octets n)) ∷ octets n
unfolding shortest_length
length_long n h = grind (arith, nat_tests)

octets_some : (n : ℕ) → 0 < n → 1 ≤ length (octets n)
octets_some n h = let l = leads n n [] (omega arith) h in omega (arith, ap length l.2)

-- the shortest length octets of a number are length octets of it
pub shortest_length_spells : (n : ℕ) → n < 256 ^ 126 → SpellsAnyLength (shortest_length n) n
shortest_length_spells n h =
    ⊎_elim
    (λ a. subst (λ s. SpellsAnyLength s n) (sym (length_short n a)) (inl (a, refl, refl)))
    (λ a. subst (λ s. SpellsAnyLength s n) (sym (length_long n a)) (inr (omega (arith, octets_few 126 n h), refl, octets_some n (omega arith), sym (number_octets n))))
    (cases_lt n 128)

pub shortest_length_are : (n : ℕ) → n < 256 ^ 126 → Each IsOctet (shortest_length n)
shortest_length_are n h =
    ⊎_elim
    (λ a. subst (Each IsOctet) (sym (length_short n a)) (omega arith, tt))
    (λ a. subst (Each IsOctet) (sym (length_long n a)) (omega (arith, octets_few 126 n h), octets_are n))
    (cases_lt n 128)

-- no length octets of a number are fewer
pub shortest_length_fewest : (s : List ℕ) (n : ℕ) → SpellsAnyLength s n → Each IsOctet s → length (shortest_length n) ≤ length s
shortest_length_fewest [] n h are = absurd h
shortest_length_fewest (b ∷ bs) n (inl h) are = omega (arith, ap length (length_short n (omega arith)))
shortest_length_fewest (b ∷ bs) n (inr h) are =
    let few : length (octets n) ≤ length bs = subst (λ k. length (octets k) ≤ length bs) (sym h.3) (octets_fewest bs are.1) in
    ⊎_elim
    (λ a. omega (arith, ap length (length_short n a)))
    (λ a. omega (arith, ap length (length_long n a)))
    (cases_lt n 128)

-- and none as few are others
pub shortest_length_one : (s : List ℕ) (n : ℕ) → SpellsAnyLength s n → Each IsOctet s → length s ≡ length (shortest_length n) → s ≡ shortest_length n
shortest_length_one [] n h are l = absurd h
shortest_length_one (b ∷ bs) n (inl h) are l = ap (λ x. b ∷ x) h.1 ∙ ap (λ x. x ∷ []) (sym h.2) ∙ sym (length_short n (omega arith))
shortest_length_one (b ∷ bs) n (inr h) are l =
    ⊎_elim
    (λ a. absurd (omega (arith, l, ap length (length_short n a))))
    (λ a.
    let count : length bs ≡ length (octets n) = omega (arith, l, ap length (length_long n a)) in
    let same : bs ≡ octets n = number_same bs (octets n) count are.1 (octets_are n) (sym h.3 ∙ sym (number_octets n)) in
    ap (λ x. x ∷ bs) (sym h.1 ∙ ap (λ x. 128 + x) count) ∙ ap (λ x. (128 + length (octets n)) ∷ x) same ∙ sym (length_long n a))
    (cases_lt n 128)

value_of_lead : (c : Bool) (b : ℕ) (v : List ℕ) → nat_lt 127 b ≡ c → integer_value (if c then 0 ∷ b ∷ v else b ∷ v) ≡ pos (number (b ∷ v))
value_of_lead true b v e = refl
value_of_lead false b v e = let f : nat_lt b 128 ≡ true = grind (arith, nat_tests) in rw f refl

-- the fewest octets of an integer have its value
pub integer_shortest : (n : ℕ) → integer_value (shortest_integer n) ≡ pos n
unfolding shortest_integer
integer_shortest zero = refl
integer_shortest (suc n) =
    let l = leads (suc n) (suc n) [] (omega arith) (omega arith) in
    rw l.2 (value_of_lead (nat_lt 127 l.0) l.0 l.1 refl) ∙ ap (λ w. pos (number w)) (sym l.2) ∙ ap pos (number_octets (suc n))

pub shortest_integer_are : (n : ℕ) → Each IsOctet (shortest_integer n)
unfolding shortest_integer
shortest_integer_are n = at (needs_zero (octets n))
  where
    at : (c : Bool) → Each IsOctet (if c then 0 ∷ octets n else octets n)
    at true = (omega arith, octets_are n)
    at false = octets_are n

shortest_integer_most : (n : ℕ) → length (shortest_integer n) ≤ suc (length (octets n))
unfolding shortest_integer
shortest_integer_most n = at (needs_zero (octets n))
  where
    at : (c : Bool) → length (if c then 0 ∷ octets n else octets n) ≤ suc (length (octets n))
    at true = omega arith
    at false = omega arith

pub shortest_integer_some : (n : ℕ) → shortest_integer n ≢ []
shortest_integer_some n e = subst IsMinimalInteger e (minimal_shortest n)

-- no octets with the value are fewer
pub shortest_integer_fewest : (w : List ℕ) (n : ℕ) → Each IsOctet w → w ≢ [] → integer_value w ≡ pos n → length (shortest_integer n) ≤ length w
shortest_integer_fewest [] n are some e = absurd (some refl)
shortest_integer_fewest (zero ∷ bs) n are some e =
    let k = not_negative 0 bs n (omega arith) are.1 e in
    let few : length (octets n) ≤ length bs = subst (λ x. length (octets x) ≤ length bs) k.1 (octets_fewest bs are.1) in
    omega (arith, shortest_integer_most n)
shortest_integer_fewest (suc b ∷ []) n are some e = omega (arith, ap length (shortest_of_value (suc b ∷ []) n are tt e))
shortest_integer_fewest (suc b ∷ c ∷ bs) n are some e =
    let k = not_negative (suc b) (c ∷ bs) n are.0 are.1 e in
    omega (arith, ap length (shortest_of_value (suc b ∷ c ∷ bs) n are ((λ z. absurd (omega arith)), (λ z. absurd (omega (arith, k.0)))) e))

-- and none as few are others
pub shortest_integer_one : (w : List ℕ) (n : ℕ) → Each IsOctet w → integer_value w ≡ pos n → length w ≡ length (shortest_integer n) → w ≡ shortest_integer n
shortest_integer_one w n are e l =
    number_same w (shortest_integer n) l are (shortest_integer_are n) (value_number w n are e ∙ sym (value_number (shortest_integer n) n (shortest_integer_are n) (integer_shortest n)))
  where
    value_number : (w : List ℕ) (n : ℕ) → Each IsOctet w → integer_value w ≡ pos n → number w ≡ n
    value_number [] n are e = cc
    value_number (b ∷ bs) n are e = (not_negative b bs n are.0 are.1 e).1

groups_before_are : (most n b : ℕ) (bs : List ℕ) → AreGroups (b ∷ bs) → AreGroups (groups_before most n (b ∷ bs))
groups_before_are zero n b bs h = h
groups_before_are (suc most) zero b bs h = h
groups_before_are (suc most) (suc n) b bs h = groups_before_are most (suc n / 128) (128 + suc n % 128) (b ∷ bs) (omega arith, omega arith, h)

pub groups_are : (n : ℕ) → AreGroups (groups n)
groups_are n = groups_before_are n (n / 128) (n % 128) [] (omega arith)

groups_before_spell : (most n : ℕ) (after : List ℕ) → n ≤ most → groups_value 0 (groups_before most n after) ≡ groups_value n after
groups_before_spell zero zero after h = refl
groups_before_spell zero (suc n) after h = absurd (omega arith)
groups_before_spell (suc most) zero after h = refl
groups_before_spell (suc most) (suc n) after h =
    let e : suc n / 128 * 128 + (128 + suc n % 128) % 128 ≡ suc n = omega arith in
    groups_before_spell most (suc n / 128) ((128 + suc n % 128) ∷ after) (omega arith) ∙ ap (λ k. groups_value k after) e

-- the groups of a number spell it
pub groups_spell : (n : ℕ) → groups_value 0 (groups n) ≡ n
groups_spell n = let e : n / 128 * 128 + n % 128 % 128 ≡ n = omega arith in groups_before_spell n (n / 128) ((n % 128) ∷ []) (omega arith) ∙ e

groups_below : (m : ℕ) (bs : List ℕ) → groups_value m bs < suc m * 128 ^ length bs
groups_below m [] = omega arith
groups_below m (b ∷ bs) =
    let i : groups_value (m * 128 + b % 128) bs < suc (m * 128 + b % 128) * 128 ^ length bs = groups_below (m * 128 + b % 128) bs in
    rw (pow-suc 128 (length bs)) (scaled m (b % 128) (128 ^ length bs) (groups_value (m * 128 + b % 128) bs) (omega arith) i)
  where
    scaled : (m b p x : ℕ) → b < 128 → x < suc (m * 128 + b) * p → x < suc m * (p * 128)
    scaled m b p x h k =
        let f : suc (m * 128 + b) * p ≤ suc m * 128 * p = mul-le-mul_right p (omega arith) in let e : suc m * 128 * p ≡ suc m * (p * 128) = rw (mul_assoc (suc m) 128 p, mul_comm 128 p) refl in
        omega arith

pub groups_before_few : (k most n : ℕ) (after : List ℕ) → n ≤ most → n < 128 ^ k → length (groups_before most n after) ≤ k + length after
groups_before_few k zero zero after h g = omega arith
groups_before_few k (suc most) zero after h g = omega arith
groups_before_few zero most (suc n) after h g = absurd (omega arith)
groups_before_few (suc k) zero (suc n) after h g = absurd (omega arith)
groups_before_few (suc k) (suc most) (suc n) after h g =
    let q : suc n / 128 < 128 ^ k = omega (arith, pow-suc 128 k) in
    omega (arith, groups_before_few k most (suc n / 128) ((128 + suc n % 128) ∷ after) (omega arith) q)

-- no groups of a number are fewer
pub groups_fewest : (bs : List ℕ) → bs ≢ [] → length (groups (groups_value 0 bs)) ≤ length bs
groups_fewest [] h = absurd (h refl)
groups_fewest (b ∷ bs) h =
    let below : groups_value 0 (b ∷ bs) < 128 ^ suc (length bs) = omega (arith, groups_below 0 (b ∷ bs)) in
    few (length bs) (groups_value 0 (b ∷ bs)) below
  where
    few : (k n : ℕ) → n < 128 ^ suc k → length (groups n) ≤ suc k
    few k n h = let q : n / 128 < 128 ^ k = omega (arith, pow-suc 128 k) in omega (arith, groups_before_few k n (n / 128) ((n % 128) ∷ []) (omega arith) q)

groups_value_same : (m n : ℕ) (v w : List ℕ) → length v ≡ length w → AreGroups v → AreGroups w → groups_value m v ≡ groups_value n w → (m ≡ n) × (v ≡ w)
groups_value_same m n [] w l h g e = absurd h
groups_value_same m n (b ∷ v) [] l h g e = absurd g
groups_value_same m n (b ∷ []) (c ∷ []) l h g e =
    let k : m * 128 + b % 128 ≡ n * 128 + c % 128 = e in let f : b ≡ c = omega (arith, h, g) in (omega (arith, h, g), cc)
groups_value_same m n (b ∷ []) (c ∷ d ∷ w) l h g e = absurd (omega arith)
groups_value_same m n (b ∷ a ∷ v) (c ∷ []) l h g e = absurd (omega arith)
groups_value_same m n (b ∷ a ∷ v) (c ∷ d ∷ w) l h g e =
    let q = groups_value_same (m * 128 + b % 128) (n * 128 + c % 128) (a ∷ v) (d ∷ w) (omega arith) h.2 g.2 e in
    let k : m * 128 + b % 128 ≡ n * 128 + c % 128 = q.0 in
    let f : b ≡ c = omega (arith, h.0, h.1, g.0, g.1) in
    let r : a ∷ v ≡ d ∷ w = q.1 in
    (omega arith, cc)

-- and none as few are others
pub groups_one : (bs : List ℕ) (n : ℕ) → AreGroups bs → groups_value 0 bs ≡ n → length bs ≡ length (groups n) → bs ≡ groups n
groups_one bs n h e l = (groups_value_same 0 0 bs (groups n) l h (groups_are n) (e ∙ sym (groups_spell n))).1
