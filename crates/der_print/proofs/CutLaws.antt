-- The first characters of a text, and how many it has.
use Rattle.std.proofs.Common.{◌≡◌, ℕ, ◌+◌, ◌-◌, ◌<◌, ◌≤◌, Bool, true, false, cond, List, [], ◌∷◌, ◌++◌, take, drop, length, min, codes, nat_le, refl, sym, ap, ◌∙◌, arith, append_assoc, append-nil, ◌==◌, suc, zero}
use Rattle.std.proofs.Math.ListN.{drop_of_length-le, get_or}
use Rattle.std.proofs.Math.Seq.{drop-cons, take-suc, take_all}
use Rattle.std.proofs.lemmas.List.{drop_more}
use Rattle.std.proofs.lemmas.Bool.Decides.{nat_tests}
use Rattle.der_print.specs.declared.style.Limit.{Limit}
use Rattle.der_print.specs.declared.style.Limit.TheVariants.{Whole, Front, Columns}
use Rattle.der_print.specs.Cuts.{behind, cut, in_columns}
use Rattle.std.specs.Fmt.{char_count, is_char_start, take_chars}

count_none : char_count [] ≡ 0
unfolding char_count
count_none = refl

count_more : (b : ℕ) (w : List ℕ) → char_count (b ∷ w) ≡ cond (is_char_start b) 1 0 + char_count w
unfolding char_count
count_more b w = refl

first_none : (n : ℕ) → take_chars n [] ≡ []
unfolding take_chars
first_none n = refl

first_more : (n b : ℕ) (w : List ℕ)
    → take_chars n (b ∷ w) ≡ cond (is_char_start b) (cond (n == 0) [] (b ∷ take_chars (n - 1) w)) (b ∷ take_chars n w)
unfolding take_chars
first_more n b w = refl

-- what is left of a text from an octet on
pub count_from : (w : List ℕ) (i : ℕ) → i < length w
    → char_count (drop i w) ≡ cond (is_char_start (get_or w i 0)) 1 0 + char_count (drop (i + 1) w)
count_from w i within = ap char_count (drop_more w i 0 within) ∙ count_more (get_or w i 0) (drop (i + 1) w)

pub count_at_end : (w : List ℕ) (i : ℕ) → length w ≤ i → char_count (drop i w) ≡ 0
count_at_end w i past = ap char_count (drop_of_length-le w past) ∙ count_none

-- the octet at i begins the first character that isn't kept
pub first_stops : (w : List ℕ) (i : ℕ) → i < length w → is_char_start (get_or w i 0) ≡ true
    → take i w ++ take_chars 0 (drop i w) ≡ take i w
first_stops w i within starts = rw (drop_more w i 0 within, first_more, starts) (append-nil _)

-- or it is kept, and counts if it begins a character
pub first_keeps : (w : List ℕ) (i n m : ℕ) (starts : Bool) → i < length w → is_char_start (get_or w i 0) ≡ starts → n ≡ cond starts 1 0 + m
    → take (i + 1) w ++ take_chars m (drop (i + 1) w) ≡ take i w ++ take_chars n (drop i w)
first_keeps w i n m true within is count =
    let left : n - 1 ≡ m = omega arith in
    let some : (n == 0) ≡ false = grind (arith, nat_tests) in
    let one : i + 1 ≡ suc i = omega arith in
    rw (one, take-suc w i 0 within, append_assoc, drop-cons w i 0 within, first_more, is, some, left)
first_keeps w i n m false within is count =
    let left : n ≡ m = omega arith in
    let one : i + 1 ≡ suc i = omega arith in
    rw (one, take-suc w i 0 within, append_assoc, drop-cons w i 0 within, first_more, is, left)

pub first_at_end : (w : List ℕ) (i n : ℕ) → length w ≤ i → take i w ++ take_chars n (drop i w) ≡ w
first_at_end w i n past = rw (take_all i w past, drop_of_length-le w past, first_none) (append-nil w)

-- no more characters than octets, and no more than are kept
pub count_bounded : (w : List ℕ) → char_count w ≤ length w
count_bounded [] = omega (arith, count_none)
count_bounded (b ∷ w) = both (is_char_start b) (char_count (b ∷ w)) (char_count w) (length w) (count_more b w) (count_bounded w)
  where
    both : (t : Bool) (n m l : ℕ) → n ≡ cond t 1 0 + m → m ≤ l → n ≤ suc l
    both true n m l e h = omega arith
    both false n m l e h = omega arith

counted : (b : ℕ) (w : List ℕ) (starts : Bool) → is_char_start b ≡ starts → char_count (b ∷ w) ≡ cond starts 1 0 + char_count w
counted b w starts is = count_more b w ∙ ap (λ t. cond t 1 0 + char_count w) is

kept_count : (b n : ℕ) (u v : List ℕ) (starts none : Bool) → is_char_start b ≡ starts → (n == 0) ≡ none → char_count u ≤ n - 1 → char_count v ≤ n
    → char_count (cond starts (cond none [] (b ∷ u)) (b ∷ v)) ≤ n
kept_count b n u v true true is none hu hv = omega (arith, count_none)
kept_count b n u v true false is some hu hv = let above : 0 < n = grind (arith, nat_tests) in omega (arith, counted b u true is)
kept_count b n u v false none is some hu hv = omega (arith, counted b v false is)

pub count_first : (n : ℕ) (w : List ℕ) → char_count (take_chars n w) ≤ n
count_first n [] = rw (first_none n) (omega (arith, count_none))
count_first n (b ∷ w) =
    rw (first_more n b w)
    (kept_count b n (take_chars (n - 1) w) (take_chars n w) (is_char_start b) (n == 0) refl refl (count_first (n - 1) w) (count_first n w))

pub count_append : (v w : List ℕ) → char_count (v ++ w) ≡ char_count v + char_count w
count_append [] w = omega (arith, count_none)
count_append (b ∷ v) w = omega (arith, count_more b (v ++ w), count_more b v, count_append v w)

take_none : (k : ℕ) → char_count (take {A = ℕ} k []) ≡ 0
take_none zero = count_none
take_none (suc k) = count_none

points_count : (k : ℕ) → char_count (take k (codes "...")) ≤ min k 3
unfolding char_count
points_count zero = omega arith
points_count (suc zero) = omega arith
points_count (suc (suc zero)) = omega arith
points_count (suc (suc (suc k))) = let none = take_none k in omega arith

-- a text in so many columns
pub columns_suffice : (n : ℕ) (w : List ℕ) → char_count (cond (nat_le (char_count w) n) w (take_chars (n - 3) w ++ take n (codes "..."))) ≤ n
columns_suffice n w = by_test (nat_le (char_count w) n) refl
  where
    by_test : (t : Bool) → nat_le (char_count w) n ≡ t → char_count (cond t w (take_chars (n - 3) w ++ take n (codes "..."))) ≤ n
    by_test true fits = grind (arith, nat_tests)
    by_test false long = omega (arith, count_append (take_chars (n - 3) w) (take n (codes "...")), count_first (n - 3) w, points_count n)

-- as many points as there are columns
pub points_are : (n : ℕ) → take (min 3 n) (codes "...") ≡ take n (codes "...")
points_are zero = refl
points_are (suc zero) = refl
points_are (suc (suc zero)) = refl
points_are (suc (suc (suc n))) =
    let all : min 3 (suc (suc (suc n))) ≡ 3 = omega arith in
    rw all (sym (take_all (suc (suc (suc n))) (codes "...") (omega arith)))

none_in_columns : (n k : ℕ) → k ≡ 0 → cond (nat_le k n) [] (take_chars (n - 3) [] ++ take n (codes "...")) ≡ []
none_in_columns n k none = let is : nat_le k n ≡ true = grind (arith, nat_tests) in rw is refl

-- nothing is whole, and needs no columns
pub cut_none : (limit : Limit) → cut limit [] ≡ []
cut_none Whole = refl
cut_none Front = refl
cut_none (Columns n) = none_in_columns n (char_count []) count_none

pub behind_none : (limit : Limit) → limit ≡ behind limit (cut limit [])
behind_none Whole = refl
behind_none Front = refl
behind_none (Columns n) = ap Columns (let none = ap length (cut_none (Columns n)) in omega arith)

fits : (n k : ℕ) (w v : List ℕ) → k ≤ n → w ≡ cond (nat_le k n) w v
fits n k w v within = let is : nat_le k n ≡ true = grind (arith, nat_tests) in rw is refl

long : (n k : ℕ) (w v : List ℕ) → n < k → v ≡ cond (nat_le k n) w v
long n k w v past = let is : nat_le k n ≡ false = grind (arith, nat_tests) in rw is refl

pub whole_in_columns : (n : ℕ) (w : List ℕ) → char_count w ≤ n → w ≡ in_columns n w
whole_in_columns n w within = fits n (char_count w) w _ within

pub first_in_columns : (n k : ℕ) (w points : List ℕ) → n < char_count w → points ≡ take (min 3 n) (codes "...") → k ≡ n - min 3 n
    → take_chars k w ++ points ≡ in_columns n w
first_in_columns n k w points past are is =
    let kept : k ≡ n - 3 = omega arith in
    ap (λ m. take_chars m w ++ points) kept ∙ ap (λ p. take_chars (n - 3) w ++ p) (are ∙ points_are n) ∙ long n (char_count w) w _ past

-- a part that is cut has no more characters than columns
pub cut_fits : (n : ℕ) (w : List ℕ) → char_count (cut (Columns n) w) ≤ n
cut_fits n w = columns_suffice n w
