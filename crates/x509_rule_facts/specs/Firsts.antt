-- The first of some for which a fact holds.
use Rattle.std.specs.Prelude.{◌≡◌, ◌<◌, List, ◌∷◌, ◌++◌, length}
use Rattle.std.specs.List.{All}

-- x is the first of xs for which P holds, and rest follows it
pub record IsFirstOf {X : Type 0} (P : X → Type 0) (xs : List X) (x : X) (rest : List X) : Type 0 where
  pub before : List X
  pub parts : xs ≡ before ++ x ∷ rest
  pub none : All (λ z. ¬ P z) before
  pub holds : P x
  pub fewer : length rest < length xs
