-- Texts that calls write to a buffer.
use Rattle.std.specs.Prelude.{◌≡◌, ℕ, ◌⊎◌, List}
use Rattle.c_values.specs.Texts.{PutsText}

-- The text is written to the start of the buffer, as far as there is room, and n is its length. Or else n is 0.
abbrev pub Puts : List ℕ → List ℕ → List ℕ → ℕ → Type 0
Puts old text new n = (n ≡ 0) ⊎ PutsText old 0 text new n

-- the same of one of the texts that are right
abbrev pub PutsOne : (List ℕ → Type 0) → List ℕ → List ℕ → ℕ → Type 0
PutsOne right old new n = (n ≡ 0) ⊎ ((text : List ℕ) × right text × PutsText old 0 text new n)
