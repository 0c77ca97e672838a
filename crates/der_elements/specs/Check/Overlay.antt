-- Lists that are written over others.
use Rattle.std.specs.Prelude.{ℕ, zero, suc, List, [], ◌∷◌}

-- the list with others written over its items from an index on, as far as it reaches
abbrev pub overlay : {A : Type 0} → List A → ℕ → List A → List A
overlay [] n ys = []
overlay (x ∷ xs) (suc n) ys = x ∷ overlay xs n ys
overlay (x ∷ xs) zero [] = x ∷ xs
overlay (x ∷ xs) zero (y ∷ ys) = y ∷ overlay xs zero ys
