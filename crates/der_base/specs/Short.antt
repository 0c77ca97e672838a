-- Elements with a header of two octets.
use Rattle.std.specs.Prelude.{◌≡◌, ℕ, ◌<◌, List, ◌∷◌, ◌++◌, length}

-- i begins with an identifier octet and a length of one octet (8.1.3.4), the content w follows, and then rest
abbrev pub IsShort : List ℕ → ℕ → List ℕ → List ℕ → Type 0
IsShort i first w rest = (length w < 128) × (i ≡ first ∷ length w ∷ w ++ rest)
