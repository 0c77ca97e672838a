-- Lists that are written over others.
use Rattle.std.proofs.Common.{◌≡◌, ℕ, zero, suc, ◌+◌, ◌<◌, ◌≤◌, List, [], ◌∷◌, ◌++◌, length, map, refl, sym, ap, arith}
use Rattle.std.specs.Prelude.{slice_set}
use Rattle.der_elements.specs.Check.Overlay.{overlay}

pub overlay_none : {A : Type 0} (xs : List A) (n : ℕ) → xs ≡ overlay xs n []
overlay_none [] n = refl
overlay_none (x ∷ xs) zero = refl
overlay_none (x ∷ xs) (suc n) = ap (λ v. x ∷ v) (overlay_none xs n)

-- one behind the other
pub overlay_more : {A : Type 0} (xs : List A) (n : ℕ) (ys zs : List A) → overlay (overlay xs n ys) (n + length ys) zs ≡ overlay xs n (ys ++ zs)
overlay_more [] n ys zs = refl
overlay_more (x ∷ xs) (suc n) ys zs = let e : suc n + length ys ≡ suc (n + length ys) = omega arith in rw e (ap (λ v. x ∷ v) (overlay_more xs n ys zs))
overlay_more (x ∷ xs) zero [] zs = refl
overlay_more (x ∷ xs) zero (y ∷ ys) zs = let e : zero + length (y ∷ ys) ≡ suc (0 + length ys) = omega arith in rw e (ap (λ v. y ∷ v) (overlay_more xs 0 ys zs))

-- one in front of those that stand already
pub overlay_front : {A : Type 0} (xs : List A) (n : ℕ) (y : A) (ys : List A) → overlay (overlay xs (suc n) ys) n (y ∷ []) ≡ overlay xs n (y ∷ ys)
overlay_front [] n y ys = refl
overlay_front (x ∷ xs) (suc n) y ys = ap (λ v. x ∷ v) (overlay_front xs n y ys)
overlay_front (x ∷ xs) zero y ys = ap (λ v. y ∷ v) (sym (overlay_none (overlay xs 0 ys) 0))

pub overlay_one : {A : Type 0} (xs : List A) (n : ℕ) (y : A) → n < length xs → slice_set xs n y ≡ overlay xs n (y ∷ [])
overlay_one [] n y h = absurd (omega arith)
overlay_one (x ∷ xs) zero y h = ap (λ v. y ∷ v) (overlay_none xs 0)
overlay_one (x ∷ xs) (suc n) y h = ap (λ v. x ∷ v) (overlay_one xs n y (omega arith))

pub overlay_behind : {A : Type 0} (xs : List A) (n : ℕ) (ys : List A) → length xs ≤ n → xs ≡ overlay xs n ys
overlay_behind [] n ys h = refl
overlay_behind (x ∷ xs) zero ys h = absurd (omega arith)
overlay_behind (x ∷ xs) (suc n) ys h = ap (λ v. x ∷ v) (overlay_behind xs n ys (omega arith))

-- slots that are the elements themselves
pub map_same : {A : Type 0} (xs : List A) → map (λ x. x) xs ≡ xs
map_same [] = refl
map_same (x ∷ xs) = ap (λ v. x ∷ v) (map_same xs)
