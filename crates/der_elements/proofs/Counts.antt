-- How many elements of a content were visited.
use Rattle.std.proofs.Common.{◌≡◌, ℕ, suc, ◌+◌, ◌<◌, ◌≤◌, ◌⊎◌, Bool, true, false, if◌then◌else◌, ◌==◌, List, [], ◌∷◌, ◌++◌, length, refl, sym, ap, ◌∙◌, arith, inl, inr, length-append, eq-eqb}
use Rattle.std.specs.Prelude.{nat_lt}
use Rattle.std.specs.List.{All}
use Rattle.std.proofs.lemmas.List.Elements.{All-head, All-tail}
use Rattle.std.proofs.lemmas.Bool.{lt-ltb, le-ltb, ne_eqb}
use Rattle.der_elements.specs.Visits.{Visited}
use Rattle.der_elements.specs.Walked.{counted, counted_in, index_in}

counted_last : (k n : ℕ) (vs : List Visited) (v : Visited) → counted_in k n (vs ++ v ∷ []) ≡ counted k (counted_in k n vs) v
unfolding counted_in
counted_last k n [] v = refl
counted_last k n (u ∷ vs) v = counted_last k (counted k n u) vs v

pub index_none : (k : ℕ) → index_in k [] ≡ 0
unfolding counted_in
index_none k = refl

-- after one more with k around it
pub index_same : (k : ℕ) (vs : List Visited) (v : Visited) → v.depth ≡ k → index_in k (vs ++ v ∷ []) ≡ suc (index_in k vs)
index_same k vs v e =
    let n = index_in k vs in
    let p : nat_lt v.depth k ≡ false = le-ltb v.depth k (omega (arith, e)) in
    let q : (v.depth == k) ≡ true = eq-eqb v.depth k e in
    counted_last k 0 vs v ∙ ap (λ b. if b then 0 else (if v.depth == k then suc n else n)) p ∙ ap (λ b. if b then suc n else n) q

pub index_inside : (k : ℕ) (vs : List Visited) (v : Visited) → v.depth < k → index_in k (vs ++ v ∷ []) ≡ 0
index_inside k vs v h =
    let n = index_in k vs in
    let p : nat_lt v.depth k ≡ true = lt-ltb v.depth k h in
    counted_last k 0 vs v ∙ ap (λ b. if b then 0 else (if v.depth == k then suc n else n)) p

pub index_around : (k : ℕ) (vs : List Visited) (v : Visited) → k < v.depth → index_in k (vs ++ v ∷ []) ≡ index_in k vs
index_around k vs v h =
    let n = index_in k vs in
    let p : nat_lt v.depth k ≡ false = le-ltb v.depth k (omega (arith, h)) in
    let q : (v.depth == k) ≡ false = ne_eqb v.depth k (λ e. omega (arith, h, e)) in
    counted_last k 0 vs v ∙ ap (λ b. if b then 0 else (if v.depth == k then suc n else n)) p ∙ ap (λ b. if b then suc n else n) q

counted_few : (k n : ℕ) (vs : List Visited) → counted_in k n vs ≤ n + length vs
unfolding counted_in
counted_few k n [] = omega arith
counted_few k n (u ∷ vs) = omega (arith, counted_few k (counted k n u) vs, one_more k n u)
  where
    one_more : (k n : ℕ) (u : Visited) → counted k n u ≤ suc n
    one_more k n u = of (nat_lt u.depth k) (u.depth == k)
      where
        of : (a b : Bool) → (if a then 0 else (if b then suc n else n)) ≤ suc n
        of true b = omega arith
        of false true = omega arith
        of false false = omega arith

pub index_few : (k : ℕ) (vs : List Visited) → index_in k vs ≤ length vs
index_few k vs = omega (arith, counted_few k 0 vs)

-- a place in a list with one more at its end
pub split_last : {T : Type 0} (outer inner : List T) (o : T) (opens : List T) (p : T) → opens ++ p ∷ [] ≡ outer ++ o ∷ inner
    → ((outer ≡ opens) × (o ≡ p)) ⊎ ((more : List T) × (opens ≡ outer ++ o ∷ more))
split_last [] inner o [] p e = let q : p ≡ o = (cc) in inl (refl, sym q)
split_last [] inner o (q ∷ qs) p e = let z : q ≡ o = (cc) in inr (qs, ap (λ x. x ∷ qs) z)
split_last (a ∷ os) inner o [] p e = absurd (omega (arith, ap length e, length-append os (o ∷ inner)))
split_last (a ∷ os) inner o (q ∷ qs) p e =
    let z : q ≡ a = (cc) in
    let tail : qs ++ p ∷ [] ≡ os ++ o ∷ inner = (cc) in
    elim (split_last os inner o qs p tail) [
      | inl (f, g) ↦ (inl (ap (λ l. a ∷ l) f ∙ ap (λ x. x ∷ qs) (sym z), g))
      | inr (more, f) ↦ (inr (more, ap (λ l. q ∷ l) f ∙ ap (λ x. x ∷ (os ++ o ∷ more)) z))
    ]

-- after others
pub counted_more : (k n : ℕ) (us ws : List Visited) → counted_in k n (us ++ ws) ≡ counted_in k (counted_in k n us) ws
unfolding counted_in
counted_more k n [] ws = refl
counted_more k n (u ∷ us) ws = counted_more k (counted k n u) us ws

pub counted_first : (k n : ℕ) (u : Visited) (us : List Visited) → counted_in k n (u ∷ us) ≡ counted_in k (counted k n u) us
unfolding counted_in
counted_first k n u us = refl

-- those with more around them don't count
pub counted_deeper : (k n : ℕ) (us : List Visited) → All (λ v. k < v.depth) us → counted_in k n us ≡ n
unfolding counted_in
counted_deeper k n [] h = refl
counted_deeper k n (u ∷ us) h =
    let P : Visited → Type 0 = λ v. k < v.depth in
    let deep : k < u.depth = All-head P u us h in
    let p : nat_lt u.depth k ≡ false = le-ltb u.depth k (omega (arith, deep)) in
    let q : (u.depth == k) ≡ false = ne_eqb u.depth k (λ e. omega (arith, deep, e)) in
    let same : counted k n u ≡ n = ap (λ b. if b then 0 else (if u.depth == k then suc n else n)) p ∙ ap (λ b. if b then suc n else n) q in
    ap (λ j. counted_in k j us) same ∙ counted_deeper k n us (All-tail P u us h)

pub counted_same : (k n : ℕ) (u : Visited) → u.depth ≡ k → counted k n u ≡ suc n
counted_same k n u e =
    let p : nat_lt u.depth k ≡ false = le-ltb u.depth k (omega (arith, e)) in
    let q : (u.depth == k) ≡ true = eq-eqb u.depth k e in
    ap (λ b. if b then 0 else (if u.depth == k then suc n else n)) p ∙ ap (λ b. if b then suc n else n) q

pub counted_less : (k n : ℕ) (u : Visited) → u.depth < k → counted k n u ≡ 0
counted_less k n u h = ap (λ b. if b then 0 else (if u.depth == k then suc n else n)) (lt-ltb u.depth k h)
