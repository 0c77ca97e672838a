-- A fact of each element of a list, by recursion on the list.
use Rattle.std.proofs.Common.{◌≡◌, ℕ, suc, List, [], ◌∷◌, ◌++◌, subst, arith, All}
use Rattle.std.proofs.lemmas.List.Elements.{All-nil, All-cons}

abbrev pub Each : (ℕ → Type 0) → List ℕ → Type 0
Each P [] = Unit {0}
Each P (b ∷ w) = P b × Each P w

pub each_from_all : (P : ℕ → Type 0) (w : List ℕ) → All P w → Each P w
each_from_all P [] h = tt
each_from_all P (b ∷ w) h = (h 0 0 (omega arith), each_from_all P w (λ k d l. h (suc k) d (omega arith)))

pub each_append : (P : ℕ → Type 0) (v w : List ℕ) → Each P v → Each P w → Each P (v ++ w)
each_append P [] w h g = g
each_append P (b ∷ v) w h g = (h.0, each_append P v w h.1 g)

pub each_map : (P Q : ℕ → Type 0) (w : List ℕ) → ((b : ℕ) → P b → Q b) → Each P w → Each Q w
each_map P Q [] f h = tt
each_map P Q (b ∷ w) f h = (f b h.0, each_map P Q w f h.1)

pub each_at : (P : ℕ → Type 0) (v : List ℕ) (b : ℕ) (f w : List ℕ) → Each P w → w ≡ v ++ (b ∷ f) → P b
each_at P v b f w h e = go v (subst (Each P) e h)
  where
    go : (v : List ℕ) → Each P (v ++ (b ∷ f)) → P b
    go [] h = h.0
    go (a ∷ v) h = go v h.1

pub all_from_each : (P : ℕ → Type 0) (w : List ℕ) → Each P w → All P w
all_from_each P [] h = All-nil P
all_from_each P (b ∷ w) h = All-cons P b w h.0 (all_from_each P w h.1)
