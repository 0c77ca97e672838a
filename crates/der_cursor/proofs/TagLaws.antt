-- The identifier octets of an explicit tag, and the test for them.
use Rattle.std.proofs.Common.{◌≡◌, ℕ, zero, suc, ◌+◌, ◌-◌, ◌/◌, ◌%◌, ◌<◌, ◌≤◌, Bool, true, false, IsTrue}
use Rattle.std.proofs.Common.{nat_eq, List, [], ◌∷◌, ◌++◌, length, take, drop, refl, sym, ap, ◌∙◌, arith}
use Rattle.std.specs.Prelude.{◌↔◌}
use Rattle.std.specs.List.{starts_with}
use Rattle.std.specs.Cmp.Lexicographic.{same_text, other_text}
use Rattle.std.proofs.Math.Seq.{take-append_seam}
use Rattle.std.proofs.lemmas.List.{take-append-drop}
use Rattle.der_base.specs.declared.header.Class.TheVariants.{ContextSpecific}
use Rattle.der_base.specs.Octets.{groups, groups_before, identifier}
use Rattle.der_base.proofs.Octets.Identifiers.{identifier_short, identifier_long}
use Rattle.der_cursor.specs.Elements.{BeginsWithTag}
use Rattle.der_cursor.proofs.ElementLaws.{apart}

-- a list starts with another where it is that one and a rest
pub starts : (b : Bool) (xs p : List ℕ) → b ≡ starts_with nat_eq xs p → IsTrue b ↔ ((rest : List ℕ) × (xs ≡ p ++ rest))
starts true xs p e =
    let front : p ≡ take (length p) xs = same_text p (take (length p) xs) e in
    (λ h. (drop (length p) xs, sym (take-append-drop (length p) xs) ∙ ap (λ y. y ++ drop (length p) xs) (sym front)), λ h. refl)
starts false xs p e =
    (λ h. absurd (apart h), λ h. absurd (other_text p (take (length p) xs) e (sym (ap (λ y. take (length p) y) h.1 ∙ take-append_seam p h.0))))

pub tag_starts : (b : Bool) (xs p : List ℕ) (n : ℕ) → identifier ContextSpecific true n ≡ p → b ≡ starts_with nat_eq xs p → IsTrue b ↔ BeginsWithTag n xs
tag_starts b xs p n q e = rw q (starts b xs p e)

no_group : (m : ℕ) (after : List ℕ) → groups_before m 0 after ≡ after
no_group zero after = refl
no_group (suc m) after = refl

one_group : (m : ℕ) (after : List ℕ) → 1 ≤ m → groups_before m 1 after ≡ 129 ∷ after
one_group zero after h = absurd (omega arith)
one_group (suc m) after h = no_group m (129 ∷ after)

groups_small : (n : ℕ) → n < 128 → groups n ≡ n ∷ []
groups_small n h =
    let q : n / 128 ≡ 0 = omega arith in
    let r : n % 128 ≡ n = omega arith in
    ap (λ k. groups_before n k ((n % 128) ∷ [])) q ∙ no_group n ((n % 128) ∷ []) ∙ ap (λ k. k ∷ []) r

groups_two : (n : ℕ) → 128 ≤ n → n < 256 → groups n ≡ 129 ∷ (n - 128) ∷ []
groups_two n h k =
    let q : n / 128 ≡ 1 = omega arith in
    let r : n % 128 ≡ n - 128 = omega arith in
    ap (λ j. groups_before n j ((n % 128) ∷ [])) q ∙ one_group n ((n % 128) ∷ []) (omega arith) ∙ ap (λ j. 129 ∷ j ∷ []) r

-- below 31, from there on, and from 128 on
pub tag_short : (n : ℕ) → n < 31 → identifier ContextSpecific true n ≡ (160 + n) ∷ []
tag_short n h = identifier_short ContextSpecific true n h

pub tag_long : (n : ℕ) → 31 ≤ n → n < 128 → identifier ContextSpecific true n ≡ 191 ∷ n ∷ []
tag_long n h k = identifier_long ContextSpecific true n h ∙ ap (λ s. 191 ∷ s) (groups_small n k)

pub tag_longer : (n : ℕ) → 128 ≤ n → n < 256 → identifier ContextSpecific true n ≡ 191 ∷ 129 ∷ (n - 128) ∷ []
tag_longer n h k = identifier_long ContextSpecific true n (omega arith) ∙ ap (λ s. 191 ∷ s) (groups_two n h k)

-- Numbers of any size, by their groups of seven bits.
more : (f k : ℕ) (after : List ℕ) → 1 ≤ f → 1 ≤ k → groups_before f k after ≡ groups_before (f - 1) (k / 128) ((128 + k % 128) ∷ after)
more zero k after h l = absurd (omega (arith, h))
more (suc f) zero after h l = absurd (omega (arith, l))
more (suc f) (suc k) after h l =
    let e : f ≡ suc f - 1 = omega arith in
    ap (λ m. groups_before m (suc k / 128) ((128 + suc k % 128) ∷ after)) e

all : (f k : ℕ) (after : List ℕ) → k ≡ 0 → groups_before f k after ≡ after
all f k after h = ap (λ m. groups_before f m after) h ∙ no_group f after

abbrev group : ℕ → ℕ
group k = 128 + k % 128

abbrev upper : ℕ → ℕ
upper k = k / 128

abbrev last : ℕ → List ℕ
last n = (n % 128) ∷ []

pub groups_1 : (n : ℕ) → n < 128 → groups n ≡ last n
groups_1 n h = all n (upper n) (last n) (omega (arith, h))

pub groups_2 : (n : ℕ) → 128 ≤ n → n < 16384 → groups n ≡ group (upper n) ∷ last n
groups_2 n h k =
    more n (upper n) (last n) (omega (arith, h)) (omega (arith, h))
    ∙ all (n - 1) (upper (upper n)) (group (upper n) ∷ last n) (omega (arith, k))

pub groups_3 : (n : ℕ) → 16384 ≤ n → n < 2097152 → groups n ≡ group (upper (upper n)) ∷ group (upper n) ∷ last n
groups_3 n h k =
    more n (upper n) (last n) (omega (arith, h)) (omega (arith, h))
    ∙ more (n - 1) (upper (upper n)) (group (upper n) ∷ last n) (omega (arith, h)) (omega (arith, h))
    ∙ all (n - 1 - 1) (upper (upper (upper n))) (group (upper (upper n)) ∷ group (upper n) ∷ last n) (omega (arith, k))

pub groups_4 : (n : ℕ) → 2097152 ≤ n → n < 268435456 → groups n ≡ group (upper (upper (upper n))) ∷ group (upper (upper n)) ∷ group (upper n) ∷ last n
groups_4 n h k =
    more n (upper n) (last n) (omega (arith, h)) (omega (arith, h))
    ∙ more (n - 1) (upper (upper n)) (group (upper n) ∷ last n) (omega (arith, h)) (omega (arith, h))
    ∙ more (n - 1 - 1) (upper (upper (upper n))) (group (upper (upper n)) ∷ group (upper n) ∷ last n) (omega (arith, h)) (omega (arith, h))
    ∙ all (n - 1 - 1 - 1) (upper (upper (upper (upper n)))) (group (upper (upper (upper n))) ∷ group (upper (upper n)) ∷ group (upper n) ∷ last n) (omega (arith, k))

pub groups_5 : (n : ℕ) → 268435456 ≤ n → n < 4294967296
    → groups n ≡ group (upper (upper (upper (upper n)))) ∷ group (upper (upper (upper n))) ∷ group (upper (upper n)) ∷ group (upper n) ∷ last n
groups_5 n h k =
    more n (upper n) (last n) (omega (arith, h)) (omega (arith, h))
    ∙ more (n - 1) (upper (upper n)) (group (upper n) ∷ last n) (omega (arith, h)) (omega (arith, h))
    ∙ more (n - 1 - 1) (upper (upper (upper n))) (group (upper (upper n)) ∷ group (upper n) ∷ last n) (omega (arith, h)) (omega (arith, h))
    ∙ more (n - 1 - 1 - 1) (upper (upper (upper (upper n)))) (group (upper (upper (upper n))) ∷ group (upper (upper n)) ∷ group (upper n) ∷ last n) (omega (arith, h)) (omega (arith, h))
    ∙ all (n - 1 - 1 - 1 - 1) (upper (upper (upper (upper (upper n))))) (group (upper (upper (upper (upper n)))) ∷ group (upper (upper (upper n))) ∷ group (upper (upper n)) ∷ group (upper n) ∷ last n) (omega (arith, k))

pub groups_start : (b : Bool) (xs p : List ℕ) (n : ℕ) → groups n ≡ p → b ≡ starts_with nat_eq xs p → IsTrue b ↔ ((rest : List ℕ) × (xs ≡ groups n ++ rest))
groups_start b xs p n q e = rw q (starts b xs p e)
