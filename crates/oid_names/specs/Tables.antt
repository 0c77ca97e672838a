-- Tables of lines.
use Rattle.std.specs.Prelude.{◌≡◌, ℕ, ◌⊎◌, List, [], ◌∷◌, ◌++◌}

-- octets in front of a line: none, or some that end a line
abbrev pub EndsLine : List ℕ → Type 0
EndsLine w = (w ≡ []) ⊎ ((front : List ℕ) × (w ≡ front ++ 10 ∷ []))

-- one of the lines of the table is this line
abbrev pub HasLine : List ℕ → List ℕ → Type 0
HasLine table line = (before : List ℕ) × (after : List ℕ) × (table ≡ before ++ line ++ 10 ∷ after) × EndsLine before
