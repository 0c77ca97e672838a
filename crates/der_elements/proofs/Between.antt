-- The octets of an input from one offset up to another.
use Rattle.std.proofs.Common.{◌≡◌, ℕ, ◌+◌, ◌-◌, ◌≤◌, List, [], ◌++◌, length, take, drop, sym, ap, ◌∙◌, arith, length-drop, length-append, append_assoc}
use Rattle.std.proofs.lemmas.List.{append_cancel_left, take-append-drop, drop-drop, drop-take, length-take, take-take, take_all, length-take-le}
use Rattle.std.proofs.Math.Seq.{drop-append_seam, take-append_seam}
use Rattle.der_elements.specs.Ends.{between}

-- the first octets of a list in two parts
take_two : (m n : ℕ) (l : List ℕ) → take m l ++ take n (drop m l) ≡ take (m + n) l
take_two m n l =
    let t = take (m + n) l in
    let le : m ≤ m + n = omega arith in
    sym (sym (take-append-drop m t) ∙ ap (λ v. v ++ drop m t) (take-take m (m + n) l le) ∙ ap (λ v. take m l ++ v) (drop-take m n l))

pub between_more : (i : List ℕ) (a m n : ℕ) → a ≤ m → m ≤ n → between i a m ++ between i m n ≡ between i a n
between_more i a m n h k =
    let e : a + (m - a) ≡ m = omega arith in
    let f : (m - a) + (n - m) ≡ n - a = omega arith in
    ap (λ v. between i a m ++ take (n - m) v) (ap (λ x. drop x i) (sym e) ∙ sym (drop-drop (m - a) a i)) ∙ take_two (m - a) (n - m) (drop a i) ∙ ap (λ x. take x (drop a i)) f

pub between_none : (i : List ℕ) (a : ℕ) → between i a a ≡ []
between_none i a = let e : a - a ≡ 0 = omega arith in ap (λ x. take x (drop a i)) e

pub length-between : (i : List ℕ) (a n : ℕ) → n ≤ length i → length (between i a n) ≡ n - a
length-between i a n h = let e : n - a ≤ length (drop a i) = omega (arith, length-drop a i) in length-take-le (n - a) (drop a i) e

pub between_all : (i : List ℕ) (n : ℕ) → length i ≤ n → between i 0 n ≡ i
between_all i n h = let e : length i ≤ n - 0 = omega arith in take_all (n - 0) i e

-- a front of what is there
pub front_between : (i : List ℕ) (a n : ℕ) (b rest : List ℕ) → between i a n ≡ b ++ rest → between i a (a + length b) ≡ b
front_between i a n b rest e =
    let le : length b ≤ n - a = omega (arith, ap length e, length-append b rest, length-take (n - a) (drop a i)) in
    let z : a + length b - a ≡ length b = omega arith in
    ap (λ x. take x (drop a i)) z ∙ sym (take-take (length b) (n - a) (drop a i) le) ∙ ap (λ l. take (length b) l) e ∙ take-append_seam b rest

-- it ends where the input ends, or before
pub front_within : (i : List ℕ) (a n : ℕ) (b rest : List ℕ) → a ≤ n → n ≤ length i → between i a n ≡ b ++ rest → a + length b ≤ n
front_within i a n b rest h k e = omega (arith, ap length e, length-append b rest, length-between i a n k)

-- a part in the middle
pub middle_between : (i : List ℕ) (a n : ℕ) (h w rest : List ℕ) → between i a n ≡ h ++ (w ++ rest) → between i (a + length h) (a + length h + length w) ≡ w
middle_between i a n h w rest e =
    let m = a + length h in
    let first : between i a m ≡ h = front_between i a n h (w ++ rest) e in
    let both : between i a (a + length (h ++ w)) ≡ h ++ w = front_between i a n (h ++ w) rest (e ∙ sym (append_assoc h w rest)) in
    let q : a + length (h ++ w) ≡ m + length w = omega (arith, length-append h w) in
    append_cancel_left h (between i m (m + length w)) w
    (ap (λ l. l ++ between i m (m + length w)) (sym first) ∙ between_more i a m (m + length w) (omega arith) (omega arith) ∙ ap (λ x. between i a x) (sym q) ∙ both)

-- and what follows it
pub between_drop : (i : List ℕ) (a n : ℕ) → a ≤ n → between i a n ++ drop n i ≡ drop a i
between_drop i a n h =
    let e : a + (n - a) ≡ n = omega arith in
    ap (λ x. between i a n ++ drop x i) (sym e) ∙ ap (λ l. between i a n ++ l) (sym (drop-drop (n - a) a i)) ∙ take-append-drop (n - a) (drop a i)

-- where octets begin so
pub between_front : (i : List ℕ) (a : ℕ) (b rest : List ℕ) → drop a i ≡ b ++ rest → between i a (a + length b) ≡ b
between_front i a b rest e =
    let z : a + length b - a ≡ length b = omega arith in
    ap (λ x. take x (drop a i)) z ∙ ap (λ l. take (length b) l) e ∙ take-append_seam b rest

pub drop_front : (i : List ℕ) (a : ℕ) (b rest : List ℕ) → drop a i ≡ b ++ rest → drop (a + length b) i ≡ rest
drop_front i a b rest e = sym (drop-drop (length b) a i) ∙ ap (λ l. drop (length b) l) e ∙ drop-append_seam b rest

-- and where they are some of those up to an offset
pub front_of_between : (i : List ℕ) (a n : ℕ) (w t : List ℕ) → drop a i ≡ w ++ t → a + length w ≤ n → n ≤ length i → (z : List ℕ) × (between i a n ≡ w ++ z)
front_of_between i a n w t e h k =
    let m = a + length w in
    (between i m n, sym (between_more i a m n (omega arith) h) ∙ ap (λ l. l ++ between i m n) (between_front i a w t e))
