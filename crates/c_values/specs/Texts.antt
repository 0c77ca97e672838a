-- Texts in a buffer of the caller's.
use Rattle.std.specs.Prelude.{◌≡◌, ℕ, ◌+◌, ◌-◌, ◌^◌, min, List, length, Option, Some, None}
use Rattle.der_base.specs.Refusal.{wrong_value}
use Rattle.der_elements.specs.Check.Overlay.{overlay}
use Rattle.c_values.specs.ErrorNumbers.{refusal_number}

-- The text is written from a place on, as far as there is room, and `end` is the place after it, room or not; it stops
-- at the greatest number.
abbrev pub PutsText : List ℕ → ℕ → List ℕ → List ℕ → ℕ → Type 0
PutsText old at text new end = (new ≡ overlay old at text) × (end ≡ min (at + length text) (2 ^ 64 - 1))

-- 0, the text and its length; or the number of an error, and nothing is written
abbrev pub ReturnsText : Option (List ℕ) → List ℕ → List ℕ → ℕ → ℕ → ℕ → Type 0
ReturnsText (Some text) old new needed needed' number = (number ≡ 0) × PutsText old 0 text new needed'
ReturnsText None old new needed needed' number =
    (number ≡ refusal_number wrong_value) × (new ≡ old) × (needed' ≡ needed)
